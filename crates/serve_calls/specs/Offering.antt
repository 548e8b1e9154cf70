-- What a server has beside what each has.
use Rattle.std.specs.Prelude.{Bool}

-- whether there are calls about jobs, and whether there is a journal, whose file can be written anew
pub record Offered : Type 0 where
  pub jobs : Bool
  pub journal : Bool

-- with these
abbrev pub offering : Bool → Bool → Offered
offering jobs journal = record { jobs = jobs; journal = journal }
