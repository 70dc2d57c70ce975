-- What one step of a reading writes: the spans of each entry lie in the text buffer or in the body, and each step adds a bounded text.
use Prim.Native.Nat.{ℕ, suc, ◌+◌, ◌*◌, ◌≤◌, ◌<◌}
use mathlib.Core.Path.{◌≡◌, refl}
use mathlib.Core.List.{List, [], ◌∷◌, ◌++◌}
use mathlib.Core.Option.{none}
use native.Mathlib.Omega.{arith}
use lib.ListN.{length, length-append}
use Rattle.lists.specs.Every.{Every, none}
use Rattle.lists.proofs.Every.{every_snoc, every_map}
use Rattle.refusal.specs.declared.Refusal.{Refusal}
use Rattle.refusal.specs.Numbers.{number, place}
use Rattle.table.specs.Rules.{most_bytes}
use Rattle.document.specs.declared.part.Piece.{Piece}
use Rattle.sheet.specs.Sheet.{most_members}
use Rattle.readings.specs.Output.{Entry, text_kind, piece_kind, group_kind, failed_kind, Room, Output, appended}
use Rattle.readings.proofs.Plans.Made.{Keeps}
use Rattle.readings.proofs.Plans.Sources.{Source, of_text_lem, of_failed, of_piece, of_group, of_key_text, of_key_piece}

-- ---- what is said of an output after n steps
-- the spans of an entry, where there are so many text bytes
pub record EntryFits (body : List ℕ) (texts : ℕ) (e : Entry) : Type 0 where
  pub kind : (1 ≤ e.kind) × (e.kind ≤ 4)
  pub member : e.member < most_members
  pub key : e.key_start + e.key_len ≤ texts
  pub text : e.kind ≡ text_kind → e.start + e.len ≤ texts
  pub piece : e.kind ≡ piece_kind → e.start + e.len ≤ length body
  pub group : e.kind ≡ group_kind → e.start + e.len ≤ texts
  pub failed : e.kind ≡ failed_kind → (e.start ≤ 13) × (e.len ≤ length body)

-- the most that one step writes: a key and a value, or a group
abbrev pub most_written : ℕ
most_written = 131089

pub record Fits (body : List ℕ) (n : ℕ) (out : Output) : Type 0 where
  pub texts : length out.texts ≤ n * most_written
  pub each : Every (EntryFits body (length out.texts)) out.entries

refusal_small : (r : Refusal) → number r ≤ 13
refusal_small Refusal.Table = omega arith
refusal_small Refusal.Sheet = omega arith
refusal_small Refusal.Depth = omega arith
refusal_small Refusal.NoRoot = omega arith
refusal_small Refusal.RootName = omega arith
refusal_small Refusal.ElementInText = omega arith
refusal_small (Refusal.BadReference at) = omega arith
refusal_small Refusal.TokenError = omega arith
refusal_small Refusal.IllFormed = omega arith
refusal_small Refusal.NoRoom = omega arith
refusal_small Refusal.NotBoolean = omega arith
refusal_small Refusal.NotInteger = omega arith
refusal_small Refusal.NoSuchElement = omega arith

abbrev pub FewBytes : ℕ → List ℕ → Type 0
FewBytes most b = length b ≤ most

-- the place of a refusal lies in the body
abbrev pub PlaceFits : List ℕ → Refusal → Type 0
PlaceFits body r = place r ≤ length body

abbrev pub PieceFits : List ℕ → Piece → Type 0
PieceFits body p = p.start + p.len ≤ length body

module _ (body : List ℕ) where
  longer : {t u : ℕ} → t ≤ u → (e : Entry) → EntryFits body t e → EntryFits body u e
  longer h e w =
      record {
        kind = w.kind;
        member = w.member;
        key = omega (arith, h, w.key);
        text = λ q. omega (arith, h, w.text q);
        piece = w.piece;
        group = λ q. omega (arith, h, w.group q);
        failed = w.failed;
      }

  -- an entry more, with its bytes
  more : (n : ℕ) (out : Output) (bytes : List ℕ) (e : Entry) → Fits body n out → length bytes ≤ most_written
      → EntryFits body (length out.texts + length bytes) e
      → Fits body (suc n) (record { entries = out.entries ++ e ∷ []; texts = out.texts ++ bytes })
  more n out bytes e w h f =
      let joined = length-append out.texts bytes in
      record {
        texts = omega (arith, joined, w.texts, h);
        each = every_snoc (every_map (longer (omega (arith, joined))) w.each) (longer (omega (arith, joined)) e f);
      }

  -- an entry of each kind
  text_fits : {t : ℕ} (e : Entry) → e.kind ≡ text_kind → e.member < most_members → e.key_start + e.key_len ≤ t → e.start + e.len ≤ t
      → EntryFits body t e
  text_fits e k m key h =
      record {
        kind = (omega (arith, k), omega (arith, k));
        member = m;
        key = key;
        text = λ q. h;
        piece = λ q. absurd (omega (arith, k, q));
        group = λ q. h;
        failed = λ q. absurd (omega (arith, k, q));
      }

  piece_fits : {t : ℕ} (e : Entry) → e.kind ≡ piece_kind → e.member < most_members → e.key_start + e.key_len ≤ t
      → e.start + e.len ≤ length body → EntryFits body t e
  piece_fits e k m key h =
      record {
        kind = (omega (arith, k), omega (arith, k));
        member = m;
        key = key;
        text = λ q. absurd (omega (arith, k, q));
        piece = λ q. h;
        group = λ q. absurd (omega (arith, k, q));
        failed = λ q. absurd (omega (arith, k, q));
      }

  group_fits : {t : ℕ} (e : Entry) → e.kind ≡ group_kind → e.member < most_members → e.key_start + e.key_len ≤ t → e.start + e.len ≤ t
      → EntryFits body t e
  group_fits e k m key h =
      record {
        kind = (omega (arith, k), omega (arith, k));
        member = m;
        key = key;
        text = λ q. h;
        piece = λ q. absurd (omega (arith, k, q));
        group = λ q. h;
        failed = λ q. absurd (omega (arith, k, q));
      }

  failed_fits : {t : ℕ} (e : Entry) → e.kind ≡ failed_kind → e.member < most_members → e.key_start + e.key_len ≤ t
      → (e.start ≤ 13) × (e.len ≤ length body) → EntryFits body t e
  failed_fits e k m key h =
      record {
        kind = (omega (arith, k), omega (arith, k));
        member = m;
        key = key;
        text = λ q. absurd (omega (arith, k, q));
        piece = λ q. absurd (omega (arith, k, q));
        group = λ q. absurd (omega (arith, k, q));
        failed = λ q. h;
      }

  -- members of a sheet, texts and pieces of the body, and groups
  abbrev pub FitSource : (ℕ → Entry) → List ℕ → Type 0
  FitSource =
      Source (λ (i : ℕ). i < most_members) (FewBytes most_bytes) (PlaceFits body) (λ (i : ℕ). FewBytes (most_bytes + 17)) (PieceFits body)

  write_fits : (n : ℕ) (out : Output) {entry : ℕ → Entry} {bytes : List ℕ} → FitSource entry bytes → Fits body n out
      → Fits body (suc n) (appended entry bytes out)
  write_fits n out (of_text_lem {b = b} m t) w = more n out b _ w (omega (arith, t)) (text_fits _ refl m (omega arith) (omega arith))
  write_fits n out (of_piece m h) w = more n out [] _ w (omega arith) (piece_fits _ refl m (omega arith) h)
  write_fits n out (of_group {b = b} m t) w = more n out b _ w (omega (arith, t)) (group_fits _ refl m (omega arith) (omega arith))
  write_fits n out (of_failed {r = r} m h) w = more n out [] _ w (omega arith) (failed_fits _ refl m (omega arith) (refusal_small r, h))
  write_fits n out (of_key_text {k = y} {b = b} s t) w =
      more n out (y ++ b) _ w (omega (arith, s, t, length-append y b))
      (text_fits _ refl (omega arith) (omega (arith, length-append y b)) (omega (arith, length-append y b)))
  write_fits n out (of_key_piece {k = y} s h) w = more n out y _ w (omega (arith, s)) (piece_fits _ refl (omega arith) (omega arith) h)

  pub fits_kept : (room : Room) → Keeps room FitSource (Fits body)
  fits_kept room =
      record {
        start = record { texts = omega arith; each = none };
        idle = λ n m out h w. record { texts = omega (arith, w.texts, h); each = w.each };
        write = λ n out entry bytes s f w. write_fits n out s w;
      }
