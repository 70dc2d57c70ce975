-- Documents by W3C XML 1.0 (fifth edition) and by nothing else: productions 1, 22, 27 and 39 to 44 over the tokens of a table.
-- Each type relates a list and what is left of it: `Element l r` says that l begins with an element, and r is what follows it.
-- Left to the tokenizer: what stands between the tokens, characters written literally, which of CDSect, PI, Comment and declaration a kind
-- 7 row is and so whether it may stand where it does, and how a Name is split at its colon: two names are one where the tokenizer gives
-- them the same prefix and local name, so `:b` and `b` are. Entities that the document declares are left out: a Reference is one of
-- reference/specs/Xml.antt.
use Rattle.std.specs.Prelude.{ℕ}
use mathlib.Core.List.{List, [], ◌∷◌, Memᴰ}
use Rattle.reference.specs.Xml.{EachReference}
use Rattle.table.specs.Row.{Name, Matter, misc, references_in, Tok, start, attr, gt, close, slash, matter}

-- (S Attribute)* of [40] and [44], with [41] Attribute ::= Name Eq AttValue: seen are the names before, and none comes twice (WFC: Unique
-- Att Spec); each `&` of the value begins a Reference ([10] AttValue)
pub data Attributes : List Name → List Tok → List Tok → Type 0 where
  no_attribute : {seen : List Name} {r : List Tok} → Attributes seen r r
  attribute : {seen : List Name} {m : Name} {v : List ℕ} {l r : List Tok} → (Memᴰ m seen → ⊥) → EachReference v
      → Attributes (m ∷ seen) l r → Attributes seen (attr m v ∷ l) r

mutual
  -- [39] element ::= EmptyElemTag | STag content ETag; the end tag has the start tag's name (WFC: Element Type Match)
  pub data Element : List Tok → List Tok → Type 0 where
    empty_element : (n : Name) {l r : List Tok} → Attributes [] l (slash ∷ r) → Element (start n ∷ l) r
    full_element : (n : Name) {l m r : List Tok} → Attributes [] l (gt ∷ m) → Content m (close n ∷ r) → Element (start n ∷ l) r

  -- [43] content ::= CharData? ((element | Reference | CDSect | PI | Comment) CharData?)*; a text is CharData and Reference together,
  -- and each `&` in it begins a Reference; the other kinds of row between tags have no bytes that are looked at
  pub data Content : List Tok → List Tok → Type 0 where
    no_content : {r : List Tok} → Content r r
    between_tags : {b : Matter} {l r : List Tok} → EachReference (references_in b) → Content l r → Content (matter b ∷ l) r
    child : {l m r : List Tok} → Element l m → Content m r → Content l r

-- [27] Misc*, and in the prolog [22] the declarations too: kind 7 rows
pub data Miscs : List Tok → List Tok → Type 0 where
  no_misc : {r : List Tok} → Miscs r r
  one_misc : {l r : List Tok} → Miscs l r → Miscs (matter misc ∷ l) r

-- [1] document ::= prolog element Misc*
pub data Document : List Tok → Type 0 where
  document : {l m k : List Tok} → Miscs l m → Element m k → Miscs k [] → Document l
