-- DEMAND 3: for every body and table that the strict drain passes, a structure, list or map reading, strict or lenient, with any sheet,
-- settings, depth and room, keeps the promise of specs/Demand.antt.
use Prim.Native.Nat.{ℕ}
use mathlib.Core.Path.{◌≡◌, refl, sym, ◌∙◌, subst}
use mathlib.Core.Bool.{Bool, true, false}
use mathlib.Core.List.{List, [], ◌∷◌, ◌++◌, Memᴰ}
use mathlib.Core.Option.{Option, some, none-ne-some, some-injective}
use Rattle.std.specs.Prelude.{Ok}
use Rattle.lists.specs.Tests.{pick}
use Rattle.lists.proofs.Tests.{false_true}
use Rattle.lists.specs.Every.{Every}
use Rattle.lists.proofs.Every.{every_in}
use Rattle.refusal.specs.declared.Refusal.{Refusal}
use Rattle.refusal.specs.Answer.{Answer, refuses}
use Rattle.table.specs.Row.{Tok, cut, rows_of, toks_of}
use Rattle.xml.specs.Drain.{drained}
use Rattle.xml.specs.Passed.{Passed}
use Rattle.xml.proofs.Means.{drained_passes_is}
use Rattle.xml.proofs.Pass.{drained_document_is}
use Rattle.xml.proofs.Closing.{element_closed, element_last}
use Rattle.xml.specs.Piece.{ElementPiece}
use Rattle.xml.proofs.Piece.{element_piece}
use Rattle.document.specs.View.{View, whole}
use Rattle.document.specs.Scope.{Child, children_of, dropping, after_children, root_of, piece_of}
use Rattle.document.specs.Text.{text_of}
use Rattle.document.proofs.Passed.View.{view_passed}
use Rattle.document.proofs.Passed.Walks.{either_past, PastElements, level_in_lem, dropping_past, after_children_past}
use Rattle.document.proofs.Passed.Pieces.{Met, met, inside_met, children_met, RootMet, root_met, no_root, document_root, TextOrElement}
use Rattle.document.proofs.Passed.Pieces.{is_text_lem, is_element, text_met, element_row, IsPieceAt, piece_met}
use Rattle.sheet.specs.Settings.{is_strict}
use Rattle.sheet.specs.Sheet.{Structure}
use Rattle.sheet.specs.Names.{entry_name}
use Rattle.readings.specs.Call.{Upload, Call}
use Rattle.readings.specs.Output.{Entry, piece_kind, Room, Output, nothing, Reading, finished, refused, output}
use Rattle.readings.specs.Opening.{Asked}
use Rattle.readings.specs.Structure.{in_group, siblings, group_of, root_piece}
use Rattle.readings.specs.Collection.{is_wanted, after_entry, entries_of}
use Rattle.readings.specs.Shape.{Shape, structure, list, map, strings, SheetOf, sheet_of, read}
use Rattle.readings.specs.Demand.{Siblings, no_more_children, sibling, stranger, GroupBytes, Handed, TextWanted, of_item, of_field, ReadOf}
use Rattle.readings.specs.Demand.{MayRefuse, broken_sheet, depth_limit, element_in_text, Promised, finishes, Demand3}
use Rattle.readings.specs.Demand as promise
use Rattle.readings.proofs.Conditions.Answers.{given_refused, refuses_same}
use Rattle.readings.proofs.Conditions.Opening.{AskedRefused, by_table, by_sheet, by_depth, by_root, AskedAs}
use Rattle.readings.proofs.Conditions.Readings.{Stops, root_differs, no_text, ill_formed_lem, Refused, early, stops, full}
use Rattle.readings.proofs.Conditions.Readings.{reading_refused}
use Rattle.readings.proofs.Plans.Made.{made_kept}
use Rattle.readings.proofs.Plans.Sources.{Anything, Sources, ShapeSources}
use Rattle.readings.proofs.Plans.Readings.{output_carried, may_stop, plan_made}
use Rattle.readings.proofs.Demand.Handed.{IsElement, AllHanded, none_handed, handed_kept}

module _ (u : Upload) (passes : drained u.body u.rows u.end ≡ Ok tt) where
  toks : List Tok
  toks = toks_of u.body (rows_of u.rows)

  seen : View
  seen = whole (rows_of u.rows) u.end

  -- ---- what there is to be written: elements, and groups of elements
  piece_of_lem : (c : Child) → Met toks c → IsPieceAt u.body u.rows c.start.row (piece_of u.body seen c)
  unfolding toks seen
  piece_of_lem c m = piece_met u.end passes c m

  root_piece_lem : (root : Child) → Met toks root
      → IsPieceAt u.body u.rows root.start.row (root_piece u.body (record { seen = seen; root = root }))
  unfolding root_piece seen toks
  root_piece_lem root (met e d k h) =
      rw (element_row e d k, element_closed u.body (rows_of u.rows) e k h, element_last u.body (rows_of u.rows) e k h)
      (element_piece u.end passes e k h)

  -- the siblings of a group are elements, and the others are no siblings
  siblings_are : (s : Structure) (i : ℕ) (l : List Child) → ((c : Child) → Memᴰ c l → Met toks c)
      → Siblings u s i l (siblings u.body seen s i l)
  unfolding siblings
  siblings_are s i [] f = no_more_children
  siblings_are s i (c ∷ l) f = go (in_group s i c) refl (siblings_are s i l (λ x m. f x (Memᴰ.tail m)))
    where
      bytes : List ℕ
      bytes = let p = piece_of u.body seen c in cut u.body p.start p.len

      go : (t : Bool) → in_group s i c ≡ t → Siblings u s i l (siblings u.body seen s i l)
          → Siblings u s i (c ∷ l) (pick t (bytes ++ siblings u.body seen s i l) (siblings u.body seen s i l))
      go true q more = sibling (piece_of_lem c (f c (Memᴰ.head refl))) q more
      go false q more = stranger q more

  -- the entries of a map are met, whether their fields are read or not
  after_entry_past : (name : Option (List ℕ)) → PastElements (after_entry name)
  unfolding after_entry
  after_entry_past name = either_past (is_wanted name) after_children dropping after_children_past dropping_past

  entries_met : (name : Option (List ℕ)) (root : Child) → Met toks root → (c : Child) → Memᴰ c (entries_of name root) → Met toks c
  unfolding entries_of
  entries_met name root (met e d k h) c i =
      inside_met toks e d k h c (rw (level_in_lem (after_entry name) (after_entry_past name) e d k) at i)

  -- a text that is refused is refused with 6
  only_six : (v : View) (c : Child) → Met toks c → (r : Refusal) → text_of v c ≡ refuses r → r ≡ Refusal.ElementInText
  unfolding toks
  only_six v c m r e = go (text_met v c m) e
    where
      go : {a : Answer (List ℕ)} → TextOrElement a → a ≡ refuses r → r ≡ Refusal.ElementInText
      go (is_text_lem t) e = given_refused e
      go is_element e = sym (refuses_same e)

  -- ---- what is read
  met_root : {root : Child} → root_of toks ≡ some root → Met toks root
  unfolding toks
  met_root {root} e = go (document_root (toks_of u.body (rows_of u.rows))
      ((drained_document_is u.body u.rows u.end).0 passes).1) e
    where
      go : {c : Option Child} → RootMet (toks_of u.body (rows_of u.rows)) c → c ≡ some root
          → Met (toks_of u.body (rows_of u.rows)) root
      go (root_met m) e = subst (Met (toks_of u.body (rows_of u.rows))) (some-injective _ _ e) m
      go no_root e = absurd (none-ne-some root e)

  module _ (sheet : List ℕ) (shape : Shape) (a : Asked (SheetOf shape)) (w : ReadOf u sheet shape a) where
    root : Met toks a.opened.root
    unfolding toks
    root = met_root w.root

    met_sources : Sources (Met toks) Anything (λ (r : Refusal). r ≡ Refusal.ElementInText) (IsElement u) u.body a.opened
    unfolding seen
    met_sources =
        record {
          root = root;
          children = children_met toks;
          entries = entries_met;
          text = λ c m b e. tt {0};
          failed = λ c m r e. only_six a.opened.seen c m r e;
          piece = λ c m. record { row = c.start.row; is = rw w.seen (piece_of_lem c m) };
        }

  shape_sources : (sheet : List ℕ) (shape : Shape) (a : Asked (SheetOf shape)) → ReadOf u sheet shape a
      → ShapeSources Anything Anything (GroupBytes u sheet) (IsElement u) u.body shape a
  unfolding seen toks group_of root_piece
  shape_sources sheet structure a w =
      let kids = children_of a.opened.root in
      record {
        member = λ m i. tt {0};
        attribute = λ name v e. tt {0};
        group = λ i. record {
          structure = a.sheet;
          says = w.says;
          root = a.opened.root;
          is_root = w.root;
          gathered = siblings u.body seen a.sheet i kids;
          siblings = siblings_are a.sheet i kids (children_met toks a.opened.root (root sheet structure a w));
          are = rw w.seen;
        };
        root = record {
          row = a.opened.root.start.row;
          is = rw w.seen (root_piece_lem a.opened.root (root sheet structure a w));
        };
      }
  shape_sources sheet list a w = tt {0}
  shape_sources sheet map a w = tt {0}
  shape_sources sheet strings a w = tt {0}

  -- ---- where it is refused
  module _ (call : Call) (room : Room) where
    read_of : (shape : Shape) (a : Asked (SheetOf shape)) → AskedAs u (sheet_of shape call.sheet) call.settings call.depth a
        → ReadOf u call.sheet shape a
    read_of shape a w =
        let all = w.begun.seen ∙ view_passed u.body u.rows u.end passes (is_strict call.settings call.depth) in
        record { says = w.says; seen = all; root = rw all at w.begun.root }

    before_reading : (shape : Shape) {r : Refusal} → AskedRefused u (sheet_of shape call.sheet) call.settings call.depth r
        → MayRefuse u call room shape nothing r
    before_reading shape (by_table n) = absurd (n ((drained_document_is u.body u.rows u.end).0 passes).0)
    before_reading shape (by_sheet t q) = broken_sheet q
    before_reading shape (by_depth t q h) = depth_limit h
    before_reading shape (by_root t q h n) =
        promise.no_root (rw (view_passed u.body u.rows u.end passes (is_strict call.settings call.depth)) at n)

    -- no view of such a table is ill-formed
    not_ill_formed : {A : Type 0} {shape : Shape} {a : Asked (SheetOf shape)} → ReadOf u call.sheet shape a
        → a.opened.seen.ill_formed ≡ true → A
    not_ill_formed w e = false_true (rw w.seen at e)

    -- a text that is wanted is refused with 6
    six : (shape : Shape) (a : Asked (SheetOf shape)) → ReadOf u call.sheet shape a → (c : Child) → TextWanted call.settings shape a c
        → Met toks c → {out : Output} {r : Refusal}
        → text_of a.opened.seen c ≡ refuses r → MayRefuse u call room shape out r
    six shape a w c wanted m {out} {r} e =
        let q = only_six a.opened.seen c m r e in
        rw q (element_in_text a c w wanted (rw q at e))

    -- a child of which a text is wanted is met
    wanted_met : (shape : Shape) (a : Asked (SheetOf shape)) → ReadOf u call.sheet shape a → (c : Child)
        → TextWanted call.settings shape a c → Met toks c
    wanted_met strings a w c (of_item b i e) = children_met toks a.opened.root (root call.sheet strings a w) c i
    wanted_met map a w c (of_field b {e = entry} i h j t) =
        children_met toks entry (entries_met (entry_name call.settings a.sheet) a.opened.root (root call.sheet map a w) entry i)
        c j
    wanted_met structure a w c x = elim x [ ]
    wanted_met list a w c x = elim x [ ]

    -- where the plan stops
    stopped : (shape : Shape) (a : Asked (SheetOf shape)) → ReadOf u call.sheet shape a → {r : Refusal} {out : Output}
        → Stops call.settings call.depth shape a r
        → MayRefuse u call room shape out r
    stopped shape a w (root_differs d) = promise.other_root_name a w d
    stopped shape a w (ill_formed_lem e) = not_ill_formed w e
    stopped shape a w (no_text c t e) = six shape a w c t (wanted_met shape a w c t) e

    may_refuse : (shape : Shape) {r : Refusal} {out : Output} → Refused u call room shape r out → MayRefuse u call room shape out r
    may_refuse shape (early x) = before_reading shape x
    may_refuse shape (stops {a = a} w x) = stopped shape a (read_of shape a w) x
    may_refuse shape (full t f) = promise.no_room t f

    all_handed : (shape : Shape) → AllHanded u call.sheet (output (read shape u call room))
    all_handed shape =
        output_carried u call room shape (AllHanded u call.sheet) (none_handed u call.sheet) (λ a w.
        let is = read_of shape a w in
        made_kept (handed_kept u call.sheet room)
        (plan_made call.settings call.depth shape a (met_sources call.sheet shape a is)
        (shape_sources call.sheet shape a is) (may_stop call.settings call.depth shape a)))

    keeps : (shape : Shape) → Promised u call room shape (read shape u call room)
    keeps shape = go (read shape u call room) refl (all_handed shape)
      where
        go : (x : Reading) → read shape u call room ≡ x → AllHanded u call.sheet (output x) → Promised u call room shape x
        go (finished out) e h = finishes h.each
        go (refused r out) e h = promise.refuses (may_refuse shape (reading_refused u call room shape e)) h.each

-- THE THEOREM, demand 3: of a body and table that passed, each reading, with any sheet, settings, depth and room, keeps its promise
pub demand_3 : Demand3
demand_3 u p shape call room = keeps u ((drained_passes_is u.body u.rows u.end).1 p) call room shape

-- of what was written, however the reading ended
pub promised_output : {u : Upload} {call : Call} {room : Room} {shape : Shape} {r : Reading} → Promised u call room shape r
    → Every (Handed u call.sheet (output r).texts) (output r).entries
promised_output (finishes a) = a
promised_output (promise.refuses m a) = a

-- of its pieces alone: each entry of kind 2 that such a reading hands out, finished or refused, is an element of the table that passes the
-- drain again
pub each_piece : (u : Upload) → Passed u.body u.rows u.end → (shape : Shape) (call : Call) (room : Room) (e : Entry)
    → Memᴰ e (output (read shape u call room)).entries → e.kind ≡ piece_kind → ElementPiece u.body u.rows e.start e.len
each_piece u p shape call room e i = (every_in (promised_output (demand_3 u p shape call room)) e i).piece
