-- Demand 3: what is written of texts, elements, groups of elements and texts that have an element inside is handed out as promised
-- (specs/Demand.antt).
use Prim.Native.Nat.{ℕ, ◌+◌, ◌≤◌}
use mathlib.Core.Path.{◌≡◌, refl, ap}
use mathlib.Core.List.{List, ◌++◌}
use native.Mathlib.Omega.{arith}
use lib.ListN.{length, drop, length-append, length-drop}
use lib.Seq.{take-append-le, drop-append-le, drop-append_seam, take-length}
use Rattle.lists.specs.Every.{Every, none}
use Rattle.lists.proofs.Every.{every_snoc, every_map}
use Rattle.refusal.specs.declared.Refusal.{Refusal}
use Rattle.refusal.specs.Numbers.{number, place}
use Rattle.table.specs.Row.{cut}
use Rattle.xml.specs.Piece.{ElementPiece}
use Rattle.document.specs.declared.part.Piece.{Piece}
use Rattle.readings.specs.Call.{Upload}
use Rattle.readings.specs.Output.{Entry, text_kind, piece_kind, Room, Output, nothing, group_entry}
use Rattle.readings.proofs.Plans.Made.{Keeps}
use Rattle.readings.proofs.Plans.Sources.{Source, of_text_lem, of_failed, of_piece, of_group, of_key_text, of_key_piece, Anything}
use Rattle.readings.specs.Demand.{GroupBytes, Handed}

-- a span of a text is the same once more is written after it
cut_longer : (texts more : List ℕ) (start len : ℕ) → start + len ≤ length texts → cut (texts ++ more) start len ≡ cut texts start len
cut_longer texts more start len h =
    rw (drop-append-le start texts more (omega arith))
    (take-append-le len (drop start texts) more (omega (arith, h, length-drop start texts)))

-- a piece is an element's
abbrev pub IsElement : Upload → Piece → Type 0
IsElement u p = ElementPiece u.body u.rows p.start p.len

module _ (u : Upload) (sheet : List ℕ) where
  handed_longer : {texts : List ℕ} (more : List ℕ) (e : Entry) → Handed u sheet texts e → Handed u sheet (texts ++ more) e
  handed_longer {texts} more e h =
      record {
        kinds = h.kinds;
        key = omega (arith, h.key, length-append texts more);
        text = λ q. omega (arith, h.text q, length-append texts more);
        piece = h.piece;
        group = λ q. let g = h.group q in
            (omega (arith, g.0, length-append texts more), rw (cut_longer texts more e.start e.len g.0) g.1);
        failed = h.failed;
      }

  -- ---- the entries of each kind
  abbrev pub HandedSource : (ℕ → Entry) → List ℕ → Type 0
  HandedSource = Source Anything Anything (λ (r : Refusal). r ≡ Refusal.ElementInText) (GroupBytes u sheet) (IsElement u)

  text_handed : {texts : List ℕ} (e : Entry) → e.kind ≡ text_kind → e.key_start + e.key_len ≤ length texts
      → e.start + e.len ≤ length texts → Handed u sheet texts e
  text_handed e q k t =
      record {
        kinds = omega arith;
        key = k;
        text = λ p. t;
        piece = λ p. absurd (omega arith);
        group = λ p. absurd (omega arith);
        failed = λ p. absurd (omega arith);
      }

  piece_handed : {texts : List ℕ} (e : Entry) → e.kind ≡ piece_kind → e.key_start + e.key_len ≤ length texts
      → ElementPiece u.body u.rows e.start e.len → Handed u sheet texts e
  piece_handed e q k x =
      record {
        kinds = omega arith;
        key = k;
        text = λ p. absurd (omega arith);
        piece = λ p. x;
        group = λ p. absurd (omega arith);
        failed = λ p. absurd (omega arith);
      }

  group_handed : (texts : List ℕ) (i : ℕ) (bytes : List ℕ) → GroupBytes u sheet i bytes
      → Handed u sheet (texts ++ bytes) (group_entry i bytes (length texts))
  group_handed texts i bytes g =
      record {
        kinds = omega arith;
        key = omega arith;
        text = λ p. absurd (omega arith);
        piece = λ p. absurd (omega arith);
        group = λ p. (omega (arith, length-append texts bytes), rw (drop-append_seam texts bytes, take-length bytes) g);
        failed = λ p. absurd (omega arith);
      }

  source_handed : (texts : List ℕ) {entry : ℕ → Entry} {bytes : List ℕ} → HandedSource entry bytes
      → Handed u sheet (texts ++ bytes) (entry (length texts))
  source_handed texts (of_text_lem {b = b} m t) = text_handed _ refl (omega arith) (omega (arith, length-append texts b))
  source_handed texts (of_failed m r) =
      record {
        kinds = omega arith;
        key = omega arith;
        text = λ p. absurd (omega arith);
        piece = λ p. absurd (omega arith);
        group = λ p. absurd (omega arith);
        failed = λ p. (ap number r, ap place r);
      }
  source_handed texts (of_piece m x) = piece_handed _ refl (omega arith) x
  source_handed texts (of_group {i = i} {b = b} m g) = group_handed texts i b g
  source_handed texts (of_key_text {k = k} {b = b} s t) =
      let long = length-append texts (k ++ b) in
      let both = length-append k b in
      text_handed _ refl (omega (arith, long, both)) (omega (arith, long, both))
  source_handed texts (of_key_piece {k = k} s x) = piece_handed _ refl (omega (arith, length-append texts k)) x

  -- each entry of an output
  pub record AllHanded (out : Output) : Type 0 where
    pub each : Every (Handed u sheet out.texts) out.entries

  pub none_handed : AllHanded nothing
  none_handed = record { each = none }

  pub handed_kept : (room : Room) → Keeps room HandedSource (λ (n : ℕ). AllHanded)
  handed_kept room =
      record {
        start = none_handed;
        idle = λ n m out h q. q;
        write = λ n out entry bytes s f q.
            record { each = every_snoc (every_map (handed_longer bytes) q.each) (source_handed out.texts s) };
      }
