-- How many bytes the plans of a root have, whether the rows obey the rules of a table or not: it is enough that they are few, and the body
-- short.
use Prim.Native.Nat.{ℕ, zero, suc, ◌*◌, ◌^◌, ◌≤◌, ◌<◌}
use mathlib.Core.Path.{◌≡◌, subst, sym}
use mathlib.Core.List.{List}
use mathlib.Core.Option.{Option, none}
use native.Mathlib.Omega.{arith}
use lib.ListN.{length, length-append, drop}
use Rattle.lists.specs.Every.{Every, none, and}
use Rattle.lists.proofs.Every.{every_in}
use Rattle.lists.proofs.Tests.{pick_all}
use Rattle.refusal.specs.Answer.{Answer, gives}
use Rattle.table.specs.Row.{Tok, toks_of}
use Rattle.table.specs.Rules.{most_rows, most_bytes}
use Rattle.document.specs.Reader.{Reader, Scope, blank, Next}
use Rattle.document.specs.Scope.{Child, scope_of, shut, done, on_next, level, level_in, children, children_of, dropping}
use Rattle.document.proofs.Laws.Onward.{Leaves, leaves_found, leaves_none, next_leaves}
use Rattle.document.proofs.Laws.Fuel.{GoesOn, dropping_goes_on, dropping_shortens}
use Rattle.document.proofs.Laws.Short.{values_short, ShortText, short_text, no_text, text_short, few_inside}
use Rattle.sheet.specs.declared.ShapeDepth.{ShapeDepth}
use Rattle.sheet.specs.declared.Settings.{Settings}
use Rattle.sheet.specs.Names.{entry_name}
use Rattle.readings.specs.Output.{Entry}
use Rattle.readings.specs.Plan.{Plan}
use Rattle.readings.specs.Opening.{Opened, Asked}
use Rattle.readings.specs.Collection.{after_entry, entries_of, strings_plan, entries_plan}
use Rattle.readings.specs.Shape.{map, strings, SheetOf}
use Rattle.readings.proofs.Conditions.Answers.{given_refused, gives_same}
use Rattle.readings.proofs.Laws.Fuel.{after_entry_goes_on, after_entry_shortens}
use Rattle.readings.proofs.Laws.Fits.{FewBytes, most_written}
use Rattle.readings.proofs.Plans.Made.{Made, made_put, made_end, made_stop}
use Rattle.readings.proofs.Plans.Bytes.{bytes_in}
use Rattle.readings.proofs.Plans.Sources.{Source, of_text_lem, of_failed, of_piece, of_group, of_key_text, of_key_piece, Anything, Sources}
use Rattle.readings.proofs.Plans.Readings.{may_stop, plan_made}

-- ---- a child whose content stands in the tokens
abbrev pub Stands : List Tok → Child → Type 0
Stands all c = drop c.inner.row all ≡ c.inner.rest

module _ (all : List Tok) (past : Child → Reader) (on : GoesOn past) where
  level_stands : (f : ℕ) (s : Scope) (r : Reader) → drop r.row all ≡ r.rest → Every (Stands all) (children (level f past s r))
  unfolding level children
  level_stands zero s r h = none
  level_stands (suc f) s r h = go (next_leaves s blank r.depth r.row r.rest) (level_stands f s)
    where
      go : {x : Next} → Leaves r x → ((q : Reader) → drop q.row all ≡ q.rest → Every (Stands all) (children (level f past s q)))
          → Every (Stands all) (children (on_next past (level f past s) x))
      go (leaves_found {el = el} q g i) ih =
          let c : Child = record { start = el; inner = q } in
          and (g.stands all h) (ih (past c) ((on c).stands all (g.stands all h)))
      go (leaves_none p g) ih = none

  inside_stands : (c : Child) → Stands all c → Every (Stands all) (children (level_in past c))
  unfolding children
  inside_stands c h =
      pick_all (λ l. Every (Stands all) (children l)) c.start.closed (done (shut c.inner))
      (level (suc (length c.inner.rest)) past (scope_of c.start) c.inner)
      none (level_stands (suc (length c.inner.rest)) (scope_of c.start) c.inner h)

-- ---- what there is to be written
every_dropped : {A : Type 0} {P : A → Type 0} (k : ℕ) {l : List A} → Every P l → Every P (drop k l)
every_dropped zero e = e
every_dropped (suc k) none = none
every_dropped (suc k) (and p e) = every_dropped k e

given_short : {most : ℕ} {a : Answer (List ℕ)} → ShortText most a → (b : List ℕ) → a ≡ gives b → length b ≤ most
given_short {most} (short_text h) b e = subst (FewBytes most) (gives_same e) h
given_short no_text b e = given_refused (sym e)

-- what is opened, of few rows and a short body
pub record FewIn (body : List ℕ) (o : Opened) : Type 0 where
  pub root : Stands (toks_of body o.seen.rows) o.root
  pub rows : length o.root.inner.rest ≤ most_rows
  pub bytes : length body ≤ most_bytes

module _ {body : List ℕ} {o : Opened} (w : FewIn body o) where
  pub few_sources : Sources (Stands (toks_of body o.seen.rows)) (FewBytes most_bytes) Anything Anything body o
  unfolding children_of entries_of
  few_sources =
      let all = toks_of body o.seen.rows in
      record {
        root = w.root;
        children = λ c h. every_in (inside_stands all dropping dropping_goes_on c h);
        entries = λ name c h. every_in (inside_stands all (after_entry name) (after_entry_goes_on name) c h);
        text = λ c h b e. omega (
          arith,
          w.bytes,
          given_short (text_short (length body) o.seen c (rw h at (every_dropped c.inner.row (values_short body o.seen.rows)))) b e,
        );
        failed = λ c h r e. tt {0};
        piece = λ c h. tt {0};
      }

  -- the rows bound the children
  pub few_kids : length (children_of o.root) ≤ most_rows
  unfolding children_of
  few_kids = omega (arith, few_inside dropping dropping_shortens o.root, w.rows)

  pub few_entries : (name : Option (List ℕ)) → length (entries_of name o.root) ≤ most_rows
  unfolding entries_of
  few_entries name = omega (arith, few_inside (after_entry name) (after_entry_shortens name) o.root, w.rows)

-- ---- plans that are made of it
abbrev pub FewSource : (ℕ → Entry) → List ℕ → Type 0
FewSource = Source Anything (FewBytes most_bytes) Anything (λ i. FewBytes most_written) Anything

few_written : {entry : ℕ → Entry} {bytes : List ℕ} → FewSource entry bytes → length bytes ≤ most_written
few_written (of_text_lem m t) = omega (arith, t)
few_written (of_failed m f) = omega arith
few_written (of_piece m p) = omega arith
few_written (of_group m g) = g
few_written (of_key_text {k = k} {b = b} s t) = omega (arith, s, t, length-append k b)
few_written (of_key_piece s p) = omega (arith, s)

pub bytes_made : {n : ℕ} {p : Plan} → Made FewSource Anything n p → bytes_in p ≤ n * most_written
unfolding bytes_in
bytes_made (made_put w t) = omega (arith, few_written w, bytes_made t)
bytes_made made_end = omega arith
bytes_made (made_stop s) = omega arith

-- no test of the root's name stands in these
abbrev no_depth : ShapeDepth
no_depth = record { 0 = 0 }

pub strings_few : (body : List ℕ) (settings : Settings) (a : Asked (SheetOf strings)) → FewIn body a.opened
    → bytes_in (strings_plan settings a) < 2 ^ 32
strings_few body settings a w =
    omega (
      arith,
      few_kids w,
      bytes_made (plan_made settings no_depth strings a (few_sources w) (tt {0}) (may_stop settings no_depth strings a)),
    )

pub entries_few : (body : List ℕ) (settings : Settings) (a : Asked (SheetOf map)) → FewIn body a.opened
    → bytes_in (entries_plan body settings a) < 2 ^ 32
entries_few body settings a w =
    omega (
      arith,
      few_entries w (entry_name settings a.sheet),
      bytes_made (plan_made settings no_depth map a (few_sources w) (tt {0}) (may_stop settings no_depth map a)),
    )
