-- What is asked first decides what is planned: the refusal alone, or what is read of the root by the sheet.
use Prim.Native.Nat.{ℕ}
use mathlib.Core.Path.{◌≡◌, refl, ap}
use mathlib.Core.Bool.{Bool, true, false, not}
use mathlib.Core.List.{List}
use mathlib.Core.Option as math
use Rattle.std.specs.Prelude.{Option, Result, Ok, Err}
use Rattle.std.specs.Result.{IsErrAnd}
use Rattle.std.proofs.lemmas.Result.{err_from_is_err_and}
use Rattle.refusal.specs.declared.Refusal.{Refusal}
use Rattle.refusal.specs.Answer.{Answer, gives, refuses}
use Rattle.table.specs.declared.rows.Table.{Table}
use Rattle.sheet.specs.declared.ShapeDepth.{ShapeDepth}
use Rattle.sheet.specs.declared.Settings.{Settings}
use Rattle.sheet.specs.Settings.{is_strict, too_deep}
use Rattle.sheet.specs.Sheet.{Structure, structure_of, list_of, map_of}
use Rattle.sheet.specs.Sheet as defined
use Rattle.codec.specs.Told.{told, told_as}
use Rattle.readings.specs.Call.{Upload, Call, calling}
use Rattle.readings.specs.Shape.{plan_of}
use Rattle.readings.specs.Opening.{Asked, asked, asking}
use Rattle.readings.specs.Plan.{Plan, stop}
use Rattle.readings.specs.Structure.{opened_plan, structure_plan}
use Rattle.readings.specs.Collection.{items_plan, list_plan, strings_plan, string_list_plan, entries_plan, map_plan}
use Rattle.decode.specs.declared.element.Element.{Element}
use Rattle.output.specs.declared.Output.{Output}
use Rattle.output.specs.Held.{Does}
use Rattle.output.proofs.Then.{does_as}
use Rattle.output.proofs.Writing.{stops}
use Rattle.opening.specs.Opening.{upload_of, body_of, asked_of, asked_where, AskedIs}
use Rattle.opening.proofs.Asked.{asked_is, saying, where_said}
use Rattle.deserializer.specs.declared.Shape.{Shape}
use Rattle.deserializer.specs.Demand.{defined_as}

not_entered : {entered : Bool} (b : Bool) → entered ≡ not b → not entered ≡ b
not_entered true e = ap not e
not_entered false e = ap not e

-- by the shape
pub as_shape : {shape is : Shape} (u : Upload) (call : Call) {b b' : Output} {r : Result (Unit {0}) Refusal} → shape ≡ is
    → Does (plan_of (defined_as is) u call) b b' r → Does (plan_of (defined_as shape) u call) b b' r
as_shape u call q d = rw q d

-- ---- by what a sheet says
-- what was asked is what the definition asks, by a sheet that the code parsed
module _ (t : Table) (bytes : List ℕ) (settings : Settings) (depth : ShapeDepth) (entered strict : Bool)
    (deep : entered ≡ not (too_deep settings depth)) (same : strict ≡ is_strict settings depth) where
  asked_as_asked : {S : Type 0} (sheet : math.Option S)
      → asked_where (not entered) strict (upload_of t) sheet ≡ asked (upload_of t) sheet settings depth
  asked_as_asked sheet = rw (not_entered (too_deep settings depth) deep, same) (asked_is (upload_of t) sheet settings depth)

  module _ {X S : Type 0} (said : X → S) (parsed : math.Option S) (sheet : Option X) (says : parsed ≡ told_as said sheet)
      (f : Asked S → Plan) where
    abbrev plan : Plan
    plan = asking (asked (upload_of t) parsed settings depth) f stop

    -- by what was asked with the sheet that was parsed
    plan_is : {a : Answer (Asked X)} → a ≡ asked_where (not entered) strict (upload_of t) (told sheet)
        → plan ≡ asking (saying said a) f stop
    plan_is q = rw (← (asked_as_asked parsed), says, where_said said (not entered) strict (upload_of t) sheet, ← q) refl

    read_plan : {s : X} {e : Element}
        → AskedIs {S = X} t.body.now (asked_where (not entered) strict (upload_of t) (told sheet)) (Ok (s, e))
        → plan ≡ f (asked_of (said s) e)
    read_plan {s} {e} a = plan_is {a = gives (asked_of s e)} a.is

    refused : {b : Output} {why : Refusal} {r : Result (Unit {0}) Refusal}
        → AskedIs {S = X} t.body.now (asked_where (not entered) strict (upload_of t) (told sheet)) (Err why)
        → IsErrAnd r (λ x. x ≡ why) → Does plan b b r
    refused {b} {why} {r} a q =
        let g = err_from_is_err_and r q in
        rw (g.1, g.2) (does_as (plan_is {a = refuses why} a.is) (stops b))

  -- ---- structures
  module _ {X : Type 0} (said : X → Structure) (sheet : Option X) (says : structure_of bytes ≡ told_as said sheet) where
    pub struct_refused : {b : Output} {why : Refusal} {r : Result (Unit {0}) Refusal}
        → AskedIs {S = X} t.body.now (asked_where (not entered) strict (upload_of t) (told sheet)) (Err why)
        → IsErrAnd r (λ x. x ≡ why) → Does (structure_plan (upload_of t) (calling bytes settings depth)) b b r
    unfolding structure_plan
    struct_refused = refused said (structure_of bytes) sheet says (opened_plan t.body.now settings depth)

    pub struct_read : {s : X} {e : Element} {b b' : Output} {r : Result (Unit {0}) Refusal}
        → AskedIs {S = X} t.body.now (asked_where (not entered) strict (upload_of t) (told sheet)) (Ok (s, e))
        → Does (opened_plan (body_of e) settings depth (asked_of (said s) e)) b b' r
        → Does (structure_plan (upload_of t) (calling bytes settings depth)) b b' r
    unfolding structure_plan
    struct_read a d =
        does_as (read_plan said (structure_of bytes) sheet says (opened_plan t.body.now settings depth) a) (rw (← a.of_body) d)

  -- ---- maps
  module _ {X : Type 0} (said : X → defined.MapSheet) (sheet : Option X) (says : map_of bytes ≡ told_as said sheet) where
    pub map_refused : {b : Output} {why : Refusal} {r : Result (Unit {0}) Refusal}
        → AskedIs {S = X} t.body.now (asked_where (not entered) strict (upload_of t) (told sheet)) (Err why)
        → IsErrAnd r (λ x. x ≡ why) → Does (map_plan (upload_of t) (calling bytes settings depth)) b b r
    unfolding map_plan
    map_refused = refused said (map_of bytes) sheet says (entries_plan t.body.now settings)

    pub map_read : {s : X} {e : Element} {b b' : Output} {r : Result (Unit {0}) Refusal}
        → AskedIs {S = X} t.body.now (asked_where (not entered) strict (upload_of t) (told sheet)) (Ok (s, e))
        → Does (entries_plan (body_of e) settings (asked_of (said s) e)) b b' r
        → Does (map_plan (upload_of t) (calling bytes settings depth)) b b' r
    unfolding map_plan
    map_read a d = does_as (read_plan said (map_of bytes) sheet says (entries_plan t.body.now settings) a) (rw (← a.of_body) d)

  -- ---- lists and string lists
  module _ {X : Type 0} (said : X → defined.ListSheet) (sheet : Option X) (says : list_of bytes ≡ told_as said sheet) where
    pub list_refused : {b : Output} {why : Refusal} {r : Result (Unit {0}) Refusal}
        → AskedIs {S = X} t.body.now (asked_where (not entered) strict (upload_of t) (told sheet)) (Err why)
        → IsErrAnd r (λ x. x ≡ why) → Does (list_plan (upload_of t) (calling bytes settings depth)) b b r
    unfolding list_plan
    list_refused = refused said (list_of bytes) sheet says (items_plan t.body.now settings)

    pub list_read : {s : X} {e : Element} {b b' : Output} {r : Result (Unit {0}) Refusal}
        → AskedIs {S = X} t.body.now (asked_where (not entered) strict (upload_of t) (told sheet)) (Ok (s, e))
        → Does (items_plan (body_of e) settings (asked_of (said s) e)) b b' r
        → Does (list_plan (upload_of t) (calling bytes settings depth)) b b' r
    unfolding list_plan
    list_read a d = does_as (read_plan said (list_of bytes) sheet says (items_plan t.body.now settings) a) (rw (← a.of_body) d)

    pub strings_refused : {b : Output} {why : Refusal} {r : Result (Unit {0}) Refusal}
        → AskedIs {S = X} t.body.now (asked_where (not entered) strict (upload_of t) (told sheet)) (Err why)
        → IsErrAnd r (λ x. x ≡ why) → Does (string_list_plan (upload_of t) (calling bytes settings depth)) b b r
    unfolding string_list_plan
    strings_refused = refused said (list_of bytes) sheet says (strings_plan settings)

    pub strings_read : {s : X} {e : Element} {b b' : Output} {r : Result (Unit {0}) Refusal}
        → AskedIs {S = X} t.body.now (asked_where (not entered) strict (upload_of t) (told sheet)) (Ok (s, e))
        → Does (strings_plan settings (asked_of (said s) e)) b b' r
        → Does (string_list_plan (upload_of t) (calling bytes settings depth)) b b' r
    unfolding string_list_plan
    strings_read a d = does_as (read_plan said (list_of bytes) sheet says (strings_plan settings) a) d
