-- Each clause is a law of the function that the arms answer.
use Rattle.std.proofs.Common.{◌≡◌, sym, refl, inl, inr, Ok, []}
use Rattle.slice_decoding.specs.ReferenceLists.{Answer, lists_of}
use Rattle.slice_decoding.proofs.SliceLists.{lists_of-none}
use Rattle.slice_decoding.proofs.ListLaws.{Constructs-lists_of, lists_of-only, lists_of-OrderTie, lists_of-NoReference, lists_of-BadModification, length-lists_of, marked-lists_of}
use Rattle.slice_decoding.proofs.ref_lists.construction.lists.Goals as goal

pub returns-in-I : goal.returns-in-I
returns-in-I c =
    let marks = c.args.marks.now in
    let sps = c.args.sps.now in
    let header = c.args.header.now in
    let counts = c.args.counts in
    let none : ◌≡◌ {A = Answer} (Ok ([], [])) (lists_of c.args.marks.now c.args.sps.now c.args.header.now c.args.counts) = elim c.in-I.is [
      | inl intra ↦ sym (lists_of-none marks sps header (rw intra refl) (rw intra refl) counts)
      | inr switching ↦ sym (lists_of-none marks sps header (rw switching refl) (rw switching refl) counts)
    ] in
    let is : ◌≡◌ {A = Answer} (Ok (c.new.result, c.new-in-I.result)) (lists_of c.args.marks.now c.args.sps.now c.args.header.now c.args.counts) = rw (c.new.ensures, c.new-in-I.ensures) none in
    record {
      constructed = rw is (Constructs-lists_of marks sps header counts);
      only = λ other constructs. rw is (lists_of-only marks sps header counts other constructs);
      exact = is;
      order_tie = rw is (lists_of-OrderTie marks sps header counts);
      no_reference = rw is (lists_of-NoReference marks sps header counts);
      bad_modification = rw is (lists_of-BadModification marks sps header counts);
      lengths = rw (← is) at (length-lists_of marks sps header counts);
      marked = rw (← is) at (marked-lists_of marks sps header counts);
    }

pub returns-in-P : goal.returns-in-P
returns-in-P c =
    let marks = c.args.marks.now in
    let sps = c.args.sps.now in
    let header = c.args.header.now in
    let counts = c.args.counts in
    let is = c.p_lists.ensures counts in
    record {
      constructed = rw is (Constructs-lists_of marks sps header counts);
      only = λ other constructs. rw is (lists_of-only marks sps header counts other constructs);
      exact = is;
      order_tie = rw is (lists_of-OrderTie marks sps header counts);
      no_reference = rw is (lists_of-NoReference marks sps header counts);
      bad_modification = rw is (lists_of-BadModification marks sps header counts);
      lengths = rw is (length-lists_of marks sps header counts);
      marked = rw is (marked-lists_of marks sps header counts);
    }

pub returns-in-B : goal.returns-in-B
returns-in-B c =
    let marks = c.args.marks.now in
    let sps = c.args.sps.now in
    let header = c.args.header.now in
    let counts = c.args.counts in
    let is = c.b_lists.ensures in
    record {
      constructed = rw is (Constructs-lists_of marks sps header counts);
      only = λ other constructs. rw is (lists_of-only marks sps header counts other constructs);
      exact = is;
      order_tie = rw is (lists_of-OrderTie marks sps header counts);
      no_reference = rw is (lists_of-NoReference marks sps header counts);
      bad_modification = rw is (lists_of-BadModification marks sps header counts);
      lengths = rw is (length-lists_of marks sps header counts);
      marked = rw is (marked-lists_of marks sps header counts);
    }
