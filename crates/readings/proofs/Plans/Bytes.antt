-- How many bytes a plan has: no more are written as it is performed, whatever the room.
use Prim.Native.Nat.{ℕ, ◌+◌, ◌≤◌}
use native.Mathlib.Omega.{arith}
use lib.ListN.{length, length-append}
use Rattle.lists.proofs.Tests.{pick_all}
use Rattle.readings.specs.Output.{Room, Output, Reading, output, fits, appended}
use Rattle.readings.specs.Plan.{Plan, put, end, stop, perform, followed_by}

-- all bytes of its entries
unfoldable pub bytes_in : Plan → ℕ
bytes_in (put entry bytes more) = length bytes + bytes_in more
bytes_in end = 0
bytes_in (stop r) = 0

pub bytes_performed : (room : Room) (p : Plan) (out : Output)
    → length (output (perform room p out)).texts ≤ length out.texts + bytes_in p
unfolding perform bytes_in
bytes_performed room (put entry bytes more) out =
    let rest = bytes_performed room more (appended entry bytes out) in
    pick_all (λ (x : Reading). length (output x).texts ≤ length out.texts + (length bytes + bytes_in more)) (fits room bytes out) _ _
    (omega (arith, rest, length-append out.texts bytes)) (omega arith)
bytes_performed room end out = omega arith
bytes_performed room (stop r) out = omega arith

pub bytes_followed : (p q : Plan) → bytes_in (followed_by p q) ≤ bytes_in p + bytes_in q
unfolding followed_by bytes_in
bytes_followed (put entry bytes more) q = omega (arith, bytes_followed more q)
bytes_followed end q = omega arith
bytes_followed (stop r) q = omega arith
