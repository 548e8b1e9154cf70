-- A stream that is read has nothing to complain of exactly where none of its units has a fault.
use Rattle.std.proofs.Common.{◌≡◌, ◌≤◌, ◌↔◌, ◌==◌, ◌∙◌, ap, sym, ℕ, List, length, IsTrue}
use Rattle.std.proofs.lemmas.Bool.{eq-eqb, eqb-true}
use Rattle.access_unit.specs.StreamUnits.{IsStream, most_units}
use Rattle.unit_printing.specs.StreamLines.{stream_outcomes}
use Rattle.stream_check.specs.StreamCounts.{counted}
use Rattle.stream_check.specs.CheckResult.{IsCheckOf, IsFine, IsTaken}
use Rattle.stream_check.specs.declared.counts.Which.TheVariants.{Fault}
use Rattle.stream_check.specs.declared.check_result.CheckedStream.{CheckedStream}

-- how many faults are counted
faults_are : (units : List (List (List ℕ))) (stream : CheckedStream) → IsCheckOf units stream
    → stream.counts.faults ≡ counted Fault (stream_outcomes units)
faults_are units stream check = ap (λ counts. counts.faults) check.counts

pub fine_stream : (text : List ℕ) (units : List (List (List ℕ))) (stream : CheckedStream) → IsStream text units → length units ≤ most_units
    → ((parts : List (List (List ℕ))) → IsStream text parts → units ≡ parts) → IsCheckOf units stream
    → IsTrue (stream.counts.faults == 0) ↔ IsFine text
fine_stream text units stream is few only check = (
  λ none. (units, is, few, sym (faults_are units stream check) ∙ eqb-true stream.counts.faults 0 none),
  λ fine. eq-eqb stream.counts.faults 0 (faults_are units stream check ∙ (ap (λ units. counted Fault (stream_outcomes units)) (only fine.0 fine.1) ∙ fine.3)),
)

-- what is fine is a stream for which there is room
pub fine_taken : (text : List ℕ) → IsFine text → IsTaken text
fine_taken text fine = (fine.0, fine.1, fine.2)
