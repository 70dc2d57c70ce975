-- The loop over the entries of a map does not depend on its fuel either (document/proofs/Laws/Fuel.antt has the others').
use Prim.Native.Nat.{ℕ}
use mathlib.Core.List.{List}
use mathlib.Core.Option.{Option}
use Rattle.lists.proofs.Tests.{pick_all}
use Rattle.document.specs.Scope.{dropping, after_children}
use Rattle.document.proofs.Laws.Onward.{GoneOn}
use Rattle.document.proofs.Laws.Fuel.{GoesOn, Shortens, dropping_goes_on, after_children_goes_on}
use Rattle.readings.specs.Collection.{is_wanted, after_entry}

-- after an entry, its fields read or not, the reader has gone on
pub after_entry_goes_on : (name : Option (List ℕ)) → GoesOn (after_entry name)
unfolding after_entry
after_entry_goes_on name c = pick_all (λ r. GoneOn c.inner r) (is_wanted name c) (after_children c) (dropping c) (after_children_goes_on c)
    (dropping_goes_on c)

pub after_entry_shortens : (name : Option (List ℕ)) → Shortens (after_entry name)
after_entry_shortens name c = (after_entry_goes_on name c).short
