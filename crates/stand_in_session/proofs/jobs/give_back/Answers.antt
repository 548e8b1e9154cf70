use Rattle.stand_in_session.proofs.ByNumber.{given_back, none_given_back}
use Rattle.stand_in_session.proofs.jobs.give_back.Goals as goal

pub returns-in-Returned : goal.returns-in-Returned
returns-in-Returned c =
    given_back c.args.session.now c.give_back_number.new.self c.args.number (rw c.in-Returned.is at c.give_back_number.ensures)

pub returns-in-Foreign : goal.returns-in-Foreign
returns-in-Foreign c =
    none_given_back c.args.session.now c.give_back_number.new.self c.args.number _ (rw c.in-Foreign.is at c.give_back_number.ensures)
