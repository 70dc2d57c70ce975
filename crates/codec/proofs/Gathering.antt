-- Members gathered one after another, each by its place.
use Rattle.std.proofs.Common.{◌≡◌, ℕ, suc, ◌+◌, ◌-◌, ◌*◌, Fits, w8, ◌≤◌, ◌<◌, List, [], ◌∷◌, ◌++◌, refl, sym, ◌∙◌, ap, length, get_or}
use Rattle.std.proofs.Common.{take, drop, set, arith, append_assoc, append-nil, get_or-set_same, get_or-set_other, length-set, below_more}
use Rattle.std.proofs.Common.{◌≢◌}
use Rattle.std.proofs.lemmas.List.{take_more_set, map-append, length-take-le, length-drop, length-map, get_or-map, get_or-take}
use Rattle.std.proofs.Math.Seq.{take-length}
use Rattle.sheet.specs.Front.{Front, front, broken, then, times}
use Rattle.sheet.specs.Sheet.{most_members, Member, member}
use Rattle.sheet.specs.Names.{child_name}
use Rattle.codec.specs.Members.{is_front, member_of, member_at, Stands, members_at, nameless}
use Rattle.codec.proofs.Onward.{After, after_same, after_after, after_member}

-- ---- so many members in other words
then_more : (l : List Member) (m : Member) (x : Front (List Member))
    → then (then x (λ k e. front (m ∷ k) e)) (λ k e. front (l ++ k) e) ≡ then x (λ k e. front ((l ++ m ∷ []) ++ k) e)
then_more l m (front k e) = rw (append_assoc l (m ∷ []) k)
then_more l m broken = refl

times_more : (n : ℕ) (l : List Member) (s r : List ℕ) (m : Member) → member s ≡ front m r
    → then (times member (suc n) s) (λ k e. front (l ++ k) e) ≡ then (times member n r) (λ k e. front ((l ++ m ∷ []) ++ k) e)
unfolding times
times_more n l s r m e = rw e (then_more l m (times member n r))

times_broken : (n : ℕ) (l : List Member) (s : List ℕ) → member s ≡ broken
    → then (times member (suc n) s) (λ k e. front (l ++ k) e) ≡ broken
unfolding times
times_broken n l s e = rw e

times_none : (l : List Member) (s : List ℕ) → then (times member 0 s) (λ k e. front (l ++ k) e) ≡ front l s
unfolding times
times_none l s = rw (append-nil l)

times_all : (x : Front (List Member)) → x ≡ then x (λ k e. front ([] ++ k) e)
times_all (front k e) = refl
times_all broken = refl

-- ---- the loop
-- of so many members from the first byte of s, those at i places, and what is left after them
pub record Gathered (count : ℕ) (s places : List ℕ) (i : ℕ) (rest : List ℕ) : Type 0 where
  pub is : times member count s ≡ then (times member (count - i) rest) (λ l end. front (members_at s places i ++ l) end)
  pub wide : length places ≡ most_members
  pub each : (j : ℕ) → j < i → Stands s (get_or places j 0)
  pub after : After (i * 513) s rest

pub gathered_none : (count : ℕ) (s places : List ℕ) → ((i : ℕ) → Fits w8 (get_or s i 0)) → length places ≡ most_members
    → Gathered count s places 0 s
gathered_none count s places b h =
    let z : count - 0 ≡ count = omega arith in
    record {
      is = rw z (times_all (times member count s));
      wide = h;
      each = λ j l. absurd (omega arith);
      after = after_same s
          (record { each = λ i. omega (arith, b i) });
    }

module _ {count : ℕ} {s places : List ℕ} {i : ℕ} {rest : List ℕ} (g : Gathered count s places i rest) where
  module _ (h : i < count) where
    left : count - i ≡ suc (count - (i + 1))
    left = omega arith

    pub gathered_broken : member rest ≡ broken → times member count s ≡ broken
    gathered_broken e = g.is ∙ rw left (times_broken (count - (i + 1)) (members_at s places i) rest e)

    module _ (few : count ≤ most_members) {m : Member} {r : List ℕ} (e : member rest ≡ front m r) where
      there : member (drop (length s - length rest) s) ≡ front m r
      there = rw (← g.after.is) e

      is_there : member_at s (length s - length rest) ≡ m
      is_there = ap member_of there

      stands : Stands s (length s - length rest)
      stands = record { is = ap is_front there; inside = omega arith }

      one_more : members_at s (set places i (length s - length rest)) (i + 1) ≡ members_at s places i ++ m ∷ []
      one_more =
          rw (
            take_more_set places i (length s - length rest) (omega (arith, g.wide)),
            map-append (member_at s) (take i places) ((length s - length rest) ∷ []),
            is_there,
          )

      more : Gathered count s (set places i (length s - length rest)) (i + 1) r
      more =
          record {
            is = rw one_more (g.is ∙ rw left (times_more (count - (i + 1)) (members_at s places i) rest r m e));
            wide = length-set places i (length s - length rest) ∙ g.wide;
            each =
                below_more _ _
                (λ j l. let ne : j ≢ i = omega arith in rw (get_or-set_other places i j (length s - length rest) 0 ne) (g.each j l))
                (rw (get_or-set_same places i (length s - length rest) 0 (omega (arith, g.wide))) stands);
            after = (let z : i * 513 + 513 ≡ (i + 1) * 513 = omega arith in rw (← z) (after_after g.after (after_member g.after.bytes e)));
          }

      pub gathered_more : (t : List ℕ) → t ≡ rest → Gathered count s (set places i (length s - length t)) (i + 1) r
      gathered_more t q = rw q more

  pub gathered_all : i ≡ count → times member count s ≡ front (members_at s places count) rest
  gathered_all e =
      let z : count - count ≡ 0 = omega arith in
      let q = rw (e, z) at g.is in q ∙ times_none (members_at s places count) rest

-- ---- what is kept
take_rest : (p : ℕ) (s : List ℕ) → take (length s - p) (drop p s) ≡ drop p s
take_rest p s = rw (← length-drop p s) (take-length (drop p s))

-- the member of an index is the one at the front of the bytes from its place on
pub member_kept : (s places : List ℕ) (count i : ℕ) → i < length (members_at s places count) → count ≤ length places → (p : ℕ)
    → p ≡ get_or places i 0
    → child_name (get_or (members_at s places count) i nameless) ≡ child_name (member_at (take (length s - p) (drop p s)) 0)
member_kept s places count i h k p q =
    let f : length (take count places) ≡ count = length-take-le count places k in
    let g : i < length (take count places) = rw (length-map (take count places) (member_at s)) at h in
    ap child_name
    (get_or-map (member_at s) (take count places) i 0 nameless g ∙
    ap (member_at s) (get_or-take count places i 0 (omega (arith, f, g)) ∙ sym q) ∙ ap member_of (ap member (sym (take_rest p s))))

pub ruleset gathered_laws = (gathered_broken, gathered_more, gathered_all)
