-- Text on its way to a writer: what is added one after the other, and what a writer has got where it fails.
use Rattle.std.proofs.Common.{◌≡◌, ◌∙◌, ℕ, ◌+◌, List, [], ◌++◌, length, take, drop, length-append, take-add, Option, refl, ap, sym, arith, append_assoc, append-nil}
use Rattle.std.proofs.KnownBytes.{Appends-nil, Appends-trans, Appends-kept}
use Rattle.std.proofs.lemmas.List.{take_all, take-append-le}
use lib.Seq.{take-append_seam, drop-append_seam}
use Rattle.std.specs.Io.KnownBytes.{Appends, Keeps}
use Rattle.std.specs.Prelude.{Result, Ok, Err, IsErrOf, OnOk, OnErr}
use Rattle.console_io.specs.declared.chunks.Chunks.{Chunks}
use Rattle.console_io.specs.declared.chunks.PrintFault.{PrintFault}
use Rattle.console_io.specs.declared.chunks.PrintFault.TheVariants.{Memory, Unwritten}
use Rattle.console_io.specs.Chunks.{Adds, AppendsFront, waiting_of}

-- nothing is a front
pub front-none : (a b : Option (List ℕ)) (bytes : List ℕ) → Keeps a b → AppendsFront a b bytes
front-none a b bytes keeps = (0, omega arith, Appends-kept a a b [] (Appends-nil a) keeps)

-- and so is all
pub front-all : (a b : Option (List ℕ)) (bytes : List ℕ) → Appends a b bytes → AppendsFront a b bytes
front-all a b bytes appends =
    let all = take_all (length bytes) bytes (omega arith) in
    (length bytes, omega arith, rw all appends)

-- a prefix of what is a front
pub front-wider : (a b : Option (List ℕ)) (bytes more : List ℕ) → AppendsFront a b bytes → AppendsFront a b (bytes ++ more)
front-wider a b bytes more front =
    let same = take-append-le front.0 bytes more front.1 in
    (front.0, omega (arith, front.1, length-append bytes more), rw same front.2)

-- a front after what is there
pub front-after : (a b c : Option (List ℕ)) (bytes more : List ℕ)
    → Appends a b bytes → AppendsFront b c more → AppendsFront a c (bytes ++ more)
front-after a b c bytes more appends front =
    let count = length bytes + front.0 in
    let taken : take count (bytes ++ more) ≡ bytes ++ take front.0 more =
    take-add (length bytes) front.0 (bytes ++ more)
    ∙ (ap (λ (l : List ℕ). l ++ take front.0 (drop (length bytes) (bytes ++ more))) (take-append_seam bytes more)
    ∙ ap (λ (l : List ℕ). bytes ++ take front.0 l) (drop-append_seam bytes more)) in
    (count, omega (arith, front.1, length-append bytes more), rw taken (Appends-trans a b c bytes (take front.0 more) appends front.2))

-- nothing is added
pub adds-none : (x : Chunks) (a : Option (List ℕ)) → Adds x a [] x a
adds-none x a = record {
  passed = [];
  got = Appends-nil a;
  waits = sym (append-nil (waiting_of x));
}

-- one text after the other
pub adds-more : (x y z : Chunks) (a b c : Option (List ℕ)) (bytes more : List ℕ)
    → Adds x a bytes y b → Adds y b more z c → Adds x a (bytes ++ more) z c
adds-more x y z a b c bytes more one other = record {
  passed = one.passed ++ other.passed;
  got = Appends-trans a b c one.passed other.passed one.got other.got;
  waits =
      append_assoc one.passed other.passed (waiting_of z)
      ∙ (ap (λ l. one.passed ++ l) other.waits
      ∙ (sym (append_assoc one.passed (waiting_of y) more)
      ∙ (ap (λ l. l ++ more) one.waits ∙ append_assoc (waiting_of x) bytes more)));
}

-- of a text that is added the writer has got a front
pub adds-front : (x y : Chunks) (a b : Option (List ℕ)) (bytes : List ℕ) → Adds x a bytes y b
    → AppendsFront a b (waiting_of x ++ bytes)
adds-front x y a b bytes adds =
    rw (sym adds.waits) (front-wider a b adds.passed (waiting_of y) (front-all a b adds.passed adds.got))

-- and of a text after it
pub adds-after : (x y : Chunks) (a b c : Option (List ℕ)) (bytes more : List ℕ) → Adds x a bytes y b
    → AppendsFront b c (waiting_of y ++ more) → AppendsFront a c (waiting_of x ++ (bytes ++ more))
adds-after x y a b c bytes more adds front =
    let after = front-after a b c adds.passed (waiting_of y ++ more) adds.got front in
    let all : adds.passed ++ (waiting_of y ++ more) ≡ waiting_of x ++ (bytes ++ more) =
    sym (append_assoc adds.passed (waiting_of y) more)
    ∙ (ap (λ l. l ++ more) adds.waits ∙ append_assoc (waiting_of x) bytes more) in
    rw (sym all) after

-- where a text isn't printed, the writer has got a prefix of it
pub front-of_fault : {T : Type 0} (a b : Option (List ℕ)) (bytes : List ℕ) (fault : PrintFault)
    → (IsErrOf {T = T} (Err fault) Memory → Keeps a b) → (IsErrOf {T = T} (Err fault) Unwritten → AppendsFront a b bytes)
    → AppendsFront a b bytes
front-of_fault a b bytes Memory keeps front = front-none a b bytes (keeps refl)
front-of_fault a b bytes Unwritten keeps front = front refl

-- where what waits is passed on, the writer has got all that was added
pub adds-all : (x y : Chunks) (a b c : Option (List ℕ)) (bytes : List ℕ) → waiting_of x ≡ [] → Adds x a bytes y b
    → Appends b c (waiting_of y) → Appends a c bytes
adds-all x y a b c bytes none adds rest =
    rw (sym (adds.waits ∙ ap (λ l. l ++ bytes) none)) (Appends-trans a b c adds.passed (waiting_of y) adds.got rest)

-- what waits is passed on, or a prefix of it
pub adds-rest : (x y : Chunks) (a b c : Option (List ℕ)) (bytes : List ℕ) → Adds x a bytes y b
    → AppendsFront b c (waiting_of y) → AppendsFront a c (waiting_of x ++ bytes)
adds-rest x y a b c bytes adds front = rw (sym adds.waits) (front-after a b c adds.passed (waiting_of y) adds.got front)

-- all or a front was written
pub front-either : {T E : Type 0} (result : Result T E) (a b : Option (List ℕ)) (bytes : List ℕ)
    → OnOk result (Appends a b bytes) → OnErr result (AppendsFront a b bytes) → AppendsFront a b bytes
front-either (Ok x) a b bytes all front = front-all a b bytes all
front-either (Err fault) a b bytes all front = front
