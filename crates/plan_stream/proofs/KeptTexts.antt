-- The lines of units, of which those after the positions are kept.
use Rattle.std.proofs.Common.{◌≡◌, ◌∙◌, ◌<◌, ◌≤◌, ℕ, ◌+◌, List, [], ◌∷◌, ◌++◌, length, map, drop, get_or, Option, None, refl, ap, sym, arith, append_assoc, append-nil}
use Rattle.std.proofs.lemmas.List.{drop_all, drop_more}
use Rattle.unit_outcomes.specs.declared.outcome.Outcome.{Outcome}
use Rattle.unit_outcomes.specs.declared.outcome.Outcome.TheVariants as outcomes
use Rattle.console_io.specs.declared.chunks.Chunks.{Chunks}
use Rattle.console_io.specs.Chunks.{Adds, AppendsFront, waiting_of}
use Rattle.console_io.proofs.Chunked.{adds-after, adds-more, front-wider}
use Rattle.request_core.specs.Fold.{outcomes_of}
use Rattle.output_order.specs.OutputOrder.{positions_of}
use Rattle.unit_printing.specs.UnitLines.{outcome_head}
use Rattle.plan_stream.specs.declared.plan_fold.PlanFold.{PlanFold}
use Rattle.plan_stream.specs.Shown.{shown_of}
use Rattle.plan_stream.specs.Folds.{IsFoldOf, kept_text, tails_from}
use Rattle.plan_stream.specs.Streams.{numbered_from}
use Rattle.plan_stream.specs.StreamText.{stream_text, units_text}
use Rattle.plan_stream.proofs.Streams.{length-numbered_from}
use Rattle.plan_stream.proofs.Positions.{same_positions}
use Rattle.plan_stream.proofs.UnitTexts.{length-outcomes_of}

same_head : (id : ℕ) (position : Option ℕ) (outcome : Outcome) → outcome_head id position (shown_of outcome) ≡ outcome_head id position outcome
same_head id position (outcomes.Plan plan) = refl
same_head id position (outcomes.Fault fault) = refl
same_head id position outcomes.Empty = refl

-- they are the lines of the units
kept_is : (id : ℕ) (done : List (List (List ℕ))) (stream : List Outcome) (positions : List (Option ℕ)) → length stream ≡ length done
    → kept_text id (map shown_of stream) positions (tails_from id stream) ≡ units_text (numbered_from id done) stream positions
kept_is id [] [] positions same = refl
kept_is id [] (outcome ∷ stream) positions same = absurd (omega arith)
kept_is id (unit ∷ done) [] positions same = absurd (omega arith)
kept_is id (unit ∷ done) (outcome ∷ stream) [] same = refl
kept_is id (unit ∷ done) (outcome ∷ stream) (position ∷ positions) same =
    rw (same_head id position outcome, kept_is (id + 1) done stream positions (omega arith)) refl

pub kept_all : (done : List (List (List ℕ))) (fold : PlanFold) (positions : List (Option ℕ)) → IsFoldOf done fold
    → positions ≡ positions_of fold.outcomes.items
    → kept_text 1 fold.outcomes.items positions fold.tails ≡ stream_text (numbered_from 1 done)
kept_all done fold positions is placed =
    let stream = outcomes_of (numbered_from 1 done) in
    let there : positions ≡ positions_of stream = placed ∙ ap positions_of is.outcomes_are ∙ same_positions stream in
    rw (is.outcomes_are, is.tails_are, there) (kept_is 1 done stream (positions_of stream) (length-outcomes_of (numbered_from 1 done) ∙ length-numbered_from 1 done))

-- those of the next unit, and then the others
pub next_kept : (outcomes : List Outcome) (positions : List (Option ℕ)) (tails : List (List ℕ)) (at id : ℕ) (outcome : Outcome) (tail : List ℕ)
    → at < length outcomes → at < length positions → at < length tails
    → outcome ≡ get_or outcomes at outcome → id ≡ at + 1 → tail ≡ get_or tails at []
    → kept_text (at + 1) (drop at outcomes) (drop at positions) (drop at tails)
    ≡ (outcome_head id (get_or positions at None) outcome ++ tail) ++ kept_text (at + 1 + 1) (drop (at + 1) outcomes) (drop (at + 1) positions) (drop (at + 1) tails)
next_kept outcomes positions tails at id outcome tail one two three outcome_is id_is tail_is =
    let first = drop_more outcomes at outcome one ∙ ap (λ o. o ∷ drop (at + 1) outcomes) (sym outcome_is) in
    rw (first, drop_more positions at None two, drop_more tails at [] three, id_is, tail_is) refl

pub no_kept : (id : ℕ) (outcomes : List Outcome) (positions : List (Option ℕ)) (tails : List (List ℕ)) (at : ℕ) → length outcomes ≤ at
    → kept_text id (drop at outcomes) positions tails ≡ []
no_kept id outcomes positions tails at past = rw (drop_all at outcomes past) refl

-- a prefix of all was added, and this is left
pub record IsPrinted (x y : Chunks) (a b : Option (List ℕ)) (all rest : List ℕ) : Type 0 where
  pub text : List ℕ
  pub adds : Adds x a text y b
  pub whole : text ++ rest ≡ all

-- one text more
pub printed-more : (x y z : Chunks) (a b c : Option (List ℕ)) (all rest more later : List ℕ) → IsPrinted x y a b all rest
    → rest ≡ more ++ later → Adds y b more z c → IsPrinted x z a c all later
printed-more x y z a b c all rest more later printed is adds = record {
  text = printed.text ++ more;
  adds = adds-more x y z a b c printed.text more printed.adds adds;
  whole = append_assoc printed.text more later ∙ ap (λ l. printed.text ++ l) (sym is) ∙ printed.whole;
}

-- where a text isn't added whole, a prefix of all was written
pub printed-front : (x y : Chunks) (a b c : Option (List ℕ)) (all rest more later : List ℕ) → IsPrinted x y a b all rest
    → rest ≡ more ++ later → AppendsFront b c (waiting_of y ++ more) → AppendsFront a c (waiting_of x ++ all)
printed-front x y a b c all rest more later printed is front =
    let after = adds-after x y a b c printed.text more printed.adds front in
    let wider = front-wider a c (waiting_of x ++ (printed.text ++ more)) later after in
    let whole : (waiting_of x ++ (printed.text ++ more)) ++ later ≡ waiting_of x ++ all =
    append_assoc (waiting_of x) (printed.text ++ more) later
    ∙ ap (λ l. waiting_of x ++ l) (append_assoc printed.text more later ∙ ap (λ l. printed.text ++ l) (sym is) ∙ printed.whole) in
    rw whole at wider

-- at the end all is added
pub printed-all : (x y : Chunks) (a b : Option (List ℕ)) (all rest : List ℕ) → IsPrinted x y a b all rest → rest ≡ [] → Adds x a all y b
printed-all x y a b all rest printed none =
    let whole : printed.text ≡ all = sym (append-nil printed.text) ∙ ap (λ l. printed.text ++ l) (sym none) ∙ printed.whole in
    rw whole at printed.adds
