-- The first fields of a unit's slice header are what reading gives, and nothing else is.
use Rattle.std.proofs.Common.{◌≡◌, ℕ, List, Result, Ok, Err, IfOk, IfErr, sym, ap}
use Rattle.expgolomb.specs.Bits.{Place}
use Rattle.expgolomb.proofs.ExpGolomb.{ok_is}
use Rattle.expgolomb.specs.Ranges.{any}
use Rattle.expgolomb.specs.Structures.{table_at}
use Rattle.expgolomb.proofs.Structures.{table_found, table_only}
use Rattle.expgolomb.proofs.Tables.{rows_fault, fault_rows}
use Rattle.slice_header.specs.declared.fault.HeaderFault.{HeaderFault}
use Rattle.slice_header.specs.declared.front.HeaderFront.{HeaderFront}
use Rattle.slice_header.specs.FrontSyntax.{front_table, no_front, take_front}
use Rattle.slice_header.specs.Fronts.{FrontHasFault, IsFront, front_at, read_value, unit_bits}

-- a value that was read was read with a place after it
pub with_place : {A : Type 0} (r : Result (A × Place) HeaderFault) (x : A) → read_value r ≡ Ok x → (q : Place) × (r ≡ Ok (x, q))
with_place (Ok y) x is = (y.1, ap (λ z. Ok (z, y.1)) (ok_is y.0 x is))
with_place (Err e) x is = cc

-- a fault that was read is that of the reading
pub fault_is : {A : Type 0} (r : Result (A × Place) HeaderFault) (e : HeaderFault) → read_value r ≡ Err e → r ≡ Err e
fault_is (Ok y) e is = cc
fault_is (Err d) e is = ap Err (cc)

pub front_found : (unit : List ℕ) (front : HeaderFront) → front_at unit ≡ Ok front → IsFront unit front
unfolding front_at
front_found unit front is =
    let read = with_place (table_at (front_table any) (unit_bits unit)) front is in
    record { after = read.0; fields = table_found (front_table any) (unit_bits unit) (front, read.0) read.1 }

pub front_only : (unit : List ℕ) (front : HeaderFront) → IsFront unit front → front_at unit ≡ Ok front
unfolding front_at
front_only unit front is =
    ap read_value (table_only (front_table any) (unit_bits unit) front is.after is.fields)

pub front_fault : (unit : List ℕ) (e : HeaderFault) → front_at unit ≡ Err e → FrontHasFault unit e
unfolding front_at table_at
front_fault unit e is =
    rows_fault take_front (front_table any).rows no_front (unit_bits unit) e (fault_is (table_at (front_table any) (unit_bits unit)) e is)

pub front_refused : (unit : List ℕ) (e : HeaderFault) → FrontHasFault unit e → front_at unit ≡ Err e
unfolding front_at table_at
front_refused unit e has =
    ap read_value (fault_rows take_front (front_table any).rows no_front (unit_bits unit) e has)

-- an answer that is what reading gives is the unit's
pub read_found : (unit : List ℕ) (answer : Result HeaderFront HeaderFault) → answer ≡ front_at unit → IfOk answer (λ front. IsFront unit front)
read_found unit (Ok front) is = front_found unit front (sym is)
read_found unit (Err e) is = tt

pub read_shown : (unit : List ℕ) (answer : Result HeaderFront HeaderFault) → answer ≡ front_at unit → IfErr answer (λ e. FrontHasFault unit e)
read_shown unit (Ok front) is = tt
read_shown unit (Err e) is = front_fault unit e (sym is)
