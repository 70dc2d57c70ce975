-- Of a table that obeys the rules: the root and the children that a reading meets stand in the tokens (document/proofs/Laws/Placed.antt).
use Prim.Native.Nat.{ℕ}
use mathlib.Core.Path.{◌≡◌}
use mathlib.Core.Bool.{Bool}
use mathlib.Core.List.{List, Memᴰ}
use mathlib.Core.Option.{Option}
use Rattle.lists.proofs.Every.{every_in}
use Rattle.lists.proofs.Tests.{pick_all}
use Rattle.refusal.specs.declared.Refusal.{Refusal}
use Rattle.refusal.specs.Answer.{gives, refuses}
use Rattle.table.specs.Row.{Tok, rows_of, toks_of}
use Rattle.document.specs.Reader.{Reader}
use Rattle.document.specs.declared.part.Piece.{Piece}
use Rattle.document.specs.Scope.{Child, dropping, after_children, piece_of}
use Rattle.document.specs.Text.{text_of}
use Rattle.document.proofs.Laws.Tags.{rows_tags}
use Rattle.document.proofs.Laws.Placed.{Outside, Placed, Outward}
use Rattle.document.proofs.Laws.Placed.{level_in_placed, dropping_outward, after_children_outward, children_placed}
use Rattle.document.proofs.Laws.Placed.{root_placed}
use Rattle.document.proofs.Laws.Inside.{ViewIn, view_in}
use Rattle.readings.specs.Call.{Upload}
use Rattle.readings.specs.Opening.{Opened}
use Rattle.readings.specs.Collection.{is_wanted, after_entry, entries_of}
use Rattle.readings.proofs.Conditions.Opening.{OpenedAs}
use Rattle.readings.proofs.Plans.Sources.{Sources}

-- what is opened
pub record OpenedIn (u : Upload) (o : Opened) : Type 0 where
  pub view : ViewIn u.body (rows_of u.rows) u.end o.seen
  pub root : Placed (toks_of u.body o.seen.rows) o.root

pub opened_in : {u : Upload} {strict : Bool} {o : Opened} → OpenedAs u strict o → OpenedIn u o
opened_in {u} {strict} {o} w =
    record { view = view; root = root_placed (toks_of u.body o.seen.rows) (rows_tags view.each) o.root w.root }
  where
    view : ViewIn u.body (rows_of u.rows) u.end o.seen
    view = rw w.seen (view_in w.rules strict)

-- the children of a map are met, whether their fields are read or not
after_entry_outward : (name : Option (List ℕ)) → Outward (after_entry name)
unfolding after_entry
after_entry_outward name all c w =
    pick_all (λ (r : Reader). Outside all r) (is_wanted name c) (after_children c) (dropping c) (after_children_outward all c w)
    (dropping_outward all c w)

entries_placed : (all : List Tok) (name : Option (List ℕ)) (c : Child) → Placed all c → (x : Child) → Memᴰ x (entries_of name c)
    → Placed all x
unfolding entries_of
entries_placed all name c p = every_in (level_in_placed all (after_entry name) (after_entry_outward name) c p.inner)

-- what there is to be written, of such children
pub placed_sources : {u : Upload} {o : Opened} {T : List ℕ → Type 0} {F : Refusal → Type 0} {P : Piece → Type 0} → OpenedIn u o
    → ((c : Child) → Placed (toks_of u.body o.seen.rows) c → (b : List ℕ) → text_of o.seen c ≡ gives b → T b)
    → ((c : Child) → Placed (toks_of u.body o.seen.rows) c → (r : Refusal) → text_of o.seen c ≡ refuses r → F r)
    → ((c : Child) → Placed (toks_of u.body o.seen.rows) c → P (piece_of u.body o.seen c))
    → Sources (Placed (toks_of u.body o.seen.rows)) T F P u.body o
placed_sources {u} {o = o} w text failed piece =
    let all = toks_of u.body o.seen.rows in
    record { root = w.root; children = children_placed all; entries = entries_placed all; text = text; failed = failed; piece = piece }
