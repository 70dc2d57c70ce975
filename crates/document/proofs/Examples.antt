-- Worked examples of scopes and texts, over tokens; the Rust meets the same.
use Prim.Native.Nat.{ℕ}
use Prim.Native.String.{String}
use mathlib.Core.Path.{◌≡◌, refl}
use mathlib.Core.Bool.{true}
use mathlib.Core.List.{List, [], ◌∷◌, map}
use mathlib.Core.Option.{Option, none, some}
use Rattle.lists.specs.Bytes.{ascii}
use Rattle.refusal.specs.declared.Refusal.{Refusal}
use Rattle.refusal.specs.Answer.{Answer, gives, refuses}
use Rattle.reference.proofs.All as reference
use Rattle.table.specs.Row.{Row, Name, Tok, start, attr, gt, close, slash, text, misc, matter}
use Rattle.xml.specs.Drain.{same_name}
use Rattle.document.specs.Reader.{skip, next}
use Rattle.document.specs.Scope.{Child, level, children, children_of, root_of}
use Rattle.document.specs.Text.{first_text, text_of}

abbrev plain : String → Name
plain local = record { prefix = []; local = ascii local }

abbrev local_of : Child → List ℕ
local_of c = c.start.name.local

-- the local names of the root's children
abbrev met : List Tok → Option (List (List ℕ))
met toks = go (root_of toks)
  where
    go : Option Child → Option (List (List ℕ))
    go none = none
    go (some c) = some (map local_of (children_of c))

pub scopes :
    map met (
    -- <r><a/><p:b>2</p:b></r>
    (start (plain "r") ∷ gt ∷ start (plain "a") ∷ slash ∷ start (record { prefix = ascii "p"; local = ascii "b" }) ∷ gt ∷ matter
    (text (ascii "2")) ∷ close (record { prefix = ascii "p"; local = ascii "b" }) ∷ close (plain "r") ∷ [])
    -- <r><a><a></a></a><b/></r>: the inner end tag is not the outer one's
    ∷ (start (plain "r") ∷ gt ∷ start (plain "a") ∷ gt ∷ start (plain "a") ∷ gt ∷ close (plain "a") ∷ close (plain "a") ∷ start
    (plain "b") ∷ slash ∷ close (plain "r") ∷ [])
    -- <r><a>1</b><c>2</c></r>: the scope of a is ended by no tag, so c is never seen
    ∷ (start (plain "r") ∷ gt ∷ start (plain "a") ∷ gt ∷ matter (text (ascii "1")) ∷ close (plain "b") ∷ start (plain "c") ∷ gt ∷ matter
    (text (ascii "2")) ∷ close (plain "c") ∷ close (plain "r") ∷ [])
    -- <r><a x="&zz;">1</a><b>2</b></r>: the level ends at the attribute
    ∷ (start (plain "r") ∷ gt ∷ start (plain "a") ∷ attr (plain "x") (ascii "&zz;") ∷ gt ∷ matter (text (ascii "1")) ∷ close
    (plain "a") ∷ start (plain "b") ∷ gt ∷ matter (text (ascii "2")) ∷ close (plain "b") ∷ close (plain "r") ∷ [])
    -- <r x="&zz;"/>: no root
    ∷ (start (plain "r") ∷ attr (plain "x") (ascii "&zz;") ∷ slash ∷ [])
    ∷ [])
    ≡ some (ascii "a" ∷ ascii "b" ∷ [])
    ∷ some (ascii "a" ∷ ascii "b" ∷ [])
    ∷ some (ascii "a" ∷ [])
    ∷ some []
    ∷ none
    ∷ []
unfolding reference.computed same_name skip next level children children_of root_of
scopes = refl

-- a row of which only the start of its value counts
abbrev valued : ℕ → Row
valued from =
    record {
      kind = 0;
      prefix_start = 0;
      prefix_len = 0;
      local_start = 0;
      local_len = 0;
      value_start = from;
      value_len = 0;
      position = 0;
    }

-- the root's first text, where the value of the third row begins at 3 and the rows run out with 9
abbrev root_text_lem : List Tok → Option (Answer (List ℕ))
root_text_lem toks = go (root_of toks)
  where
    go : Option Child → Option (Answer (List ℕ))
    go none = none
    go (some c) =
        let rows = valued 0 ∷ valued 0 ∷ valued 3 ∷ [] in
        some (text_of (record { rows = rows; failure = some Refusal.IllFormed; ill_formed = true; ends = 0 }) c)

pub texts :
    map root_text_lem (
    -- <r><!-- -->x&lt;<b/></r>: what is not text is passed over, and the first text is the answer
    (start (plain "r") ∷ gt ∷ matter misc ∷ matter (text (ascii "x&lt;")) ∷ start (plain "b") ∷ slash ∷ close (plain "r") ∷ [])
    -- <r><b/>x</r>
    ∷ (start (plain "r") ∷ gt ∷ start (plain "b") ∷ slash ∷ matter (text (ascii "x")) ∷ close (plain "r") ∷ [])
    -- <r>&zz;</r> and <r>ab&zz;</r>: 7, with the offset of the `&` in the body
    ∷ (start (plain "r") ∷ gt ∷ matter (text (ascii "&zz;")) ∷ close (plain "r") ∷ [])
    ∷ (start (plain "r") ∷ gt ∷ matter (text (ascii "ab&zz;")) ∷ close (plain "r") ∷ [])
    -- <r></r> and <r/>
    ∷ (start (plain "r") ∷ gt ∷ close (plain "r") ∷ [])
    ∷ (start (plain "r") ∷ slash ∷ [])
    -- <r>, and no more
    ∷ (start (plain "r") ∷ gt ∷ [])
    ∷ [])
    ≡ some (gives (ascii "x<"))
    ∷ some (refuses Refusal.ElementInText)
    ∷ some (refuses (Refusal.BadReference 3))
    ∷ some (refuses (Refusal.BadReference 5))
    ∷ some (gives [])
    ∷ some (gives [])
    ∷ some (refuses Refusal.IllFormed)
    ∷ []
unfolding reference.computed same_name next root_of first_text text_of
texts = refl
