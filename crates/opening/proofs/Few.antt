-- An element is one of few rows and of a short body, and its content stands in the tokens.
use Prim.Native.Nat.{◌+◌, ◌-◌}
use mathlib.Core.Path.{◌≡◌, ◌∙◌, ap}
use native.Mathlib.Omega.{arith}
use lib.ListN.{length-map}
use Rattle.std.proofs.lemmas.List.{drop-map}
use Rattle.table.specs.Row.{tok_of, toks_of}
use Rattle.table.specs.Flat.{rows_from}
use Rattle.table.proofs.Flat.{length_rows, drop_from}
use Rattle.readings.proofs.Laws.Few.{FewIn}
use Rattle.decode.specs.declared.element.Element.{Element}
use Rattle.opening.specs.Opening.{body_of, opened_of}

pub few_in : (e : Element) → FewIn (body_of e) (opened_of e)
few_in e =
    let t = e.view.table.rows.now in
    let n = e.view.count in
    let z : 0 + e.at.row ≡ e.at.row = omega arith in
    let left = rows_from t e.at.row (n - e.at.row) in
    record {
      root = drop-map (tok_of (body_of e)) e.at.row (rows_from t 0 n) ∙ ap (toks_of (body_of e)) (rw z at (drop_from t 0 e.at.row n));
      rows = omega (arith, length-map left (tok_of (body_of e)), length_rows t e.at.row (n - e.at.row), e.view.few);
      bytes = e.view.small;
    }
