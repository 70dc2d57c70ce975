-- 1, 2 and 3 are asked in the definition's order; what passes them has a table that obeys the rules, and a root or 4.
use Rattle.opening.proofs.Asked.{ask_table, ask_sheet, ask_depth, ask_root, ask_done, ask_obeys, refused_obeys}
use Rattle.opening.proofs.ask.Goals as goal

pub returns-in_err-valid : goal.returns-in_err-valid
returns-in_err-valid g c =
    record {
      is = ask_table c.args.table c.check.result c.check.ensures c.args.sheet c.args.entered c.args.strict c.in_err-valid.ensures.value
          c.from_residual.ensures.1;
      obeys = refused_obeys c.args.table c.check.result c.check.ensures c.from_residual.result _
          c.from_residual.ensures.1;
    }

pub returns-in_err-sheet : goal.returns-in_err-sheet
returns-in_err-sheet g c =
    record {
      is = ask_sheet c.args.table c.check.result c.check.ensures c.args.sheet c.args.entered c.args.strict c.in_ok-valid.valid
          c.in_ok-valid.ensures.value c.in_err-sheet.ensures.value c.from_residual-in_err-sheet.ensures.1;
      obeys = refused_obeys c.args.table c.check.result c.check.ensures c.from_residual-in_err-sheet.result _
          c.from_residual-in_err-sheet.ensures.1;
    }

pub returns-then-not-entered : goal.returns-then-not-entered
returns-then-not-entered g c =
    record {
      is = ask_depth c.args.table c.check.result c.check.ensures c.args.sheet c.args.entered c.args.strict c.in_ok-valid.valid
          c.in_ok-valid.ensures.value c.in_ok-sheet.sheet c.in_ok-sheet.ensures.value c.if-not-entered.true;
      obeys = tt;
    }

pub returns-in_err-root : goal.returns-in_err-root
returns-in_err-root g c =
    record {
      is = ask_root c.args.table c.check.result c.check.ensures c.args.sheet c.args.entered c.args.strict c.in_ok-valid.valid
          c.in_ok-valid.ensures.value c.in_ok-sheet.sheet c.in_ok-sheet.ensures.value c.if-not-entered.false c.in_err-root.ensures.is
          c.from_residual-in_err-root.ensures.1;
      obeys = refused_obeys c.args.table c.check.result c.check.ensures c.from_residual-in_err-root.result _
          c.from_residual-in_err-root.ensures.1;
    }

pub returns : goal.returns
returns g c =
    record {
      is = ask_done c.args.table c.check.result c.check.ensures c.args.sheet c.args.entered c.args.strict c.in_ok-valid.valid
          c.in_ok-valid.ensures.value c.in_ok-sheet.sheet c.in_ok-sheet.ensures.value c.in_ok-root.root c.if-not-entered.false
          c.in_ok-root.ensures.is;
      obeys = ask_obeys c.args.table c.check.result c.check.ensures c.in_ok-valid.valid c.in_ok-sheet.sheet c.in_ok-root.root
          c.in_ok-valid.ensures.value c.in_ok-root.ensures.obeys;
    }
