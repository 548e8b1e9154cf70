use Rattle.std.proofs.Common.{◌≡◌, ℕ, true, cond, ap, sym, ◌∙◌, subst, eqb, rules}
use Rattle.std.specs.Prelude.{Contains}
use Rattle.decode_jobs.specs.Keys.{Key}
use Rattle.stand_in_device.specs.KeyPictures.{picture_of_key}
use Rattle.picture_store.specs.Stores.{IsNumberOf}
use Rattle.stream_edits.specs.Edits.{Register}
use Rattle.stream_session.specs.Machines.{store_of}
use Rattle.stream_session.specs.Showing.{HasKey}
use Rattle.seat_books.specs.declared.replay.Replay.{Replay}
use Rattle.seat_books.specs.Following.{Stays}
use Rattle.seat_books.specs.Sets.{has}
use Rattle.seat_books.proofs.Checked.{Sees-ready, not_false}
use Rattle.seat_books.proofs.Numbers.{number_of_unit, one_key, same_number, same_numbers}
use Rattle.seat_books.proofs.replay.Replay.shows.Goals as goal

pub returns : goal.returns
returns c = λ journal books seat earlier replayed.
    let old : Replay = c.args.self.now in
    let mid : Replay = c.settle.new.self in
    let new : Replay = c.add_ready.new.self in
    let number : ℕ = c.in-Ok-Some.key in
    let value = rw c.in-Ok-Some.field-0-is at c.in-Ok-Some.ensures.value in
    let key : Key = value.0 in
    let stays : Stays old.session mid.session = c.in_ok-settle.ensures.stays in
    let has_key : HasKey mid.session.register.stream c.args.id key =
    subst (λ (register : Register). HasKey register.stream c.args.id key) (sym stays.register_stays) value.1 in
    let numbered : IsNumberOf (store_of mid.session) key number =
    same_number mid.session old.session (sym stays.register_stays) (sym stays.numbers_stay) key number
    (number_of_unit old.session c.args.id key number value.1 value) in
    let one = same_numbers mid.session old.session (sym stays.register_stays) (sym stays.numbers_stay) c.in-Ok-Some.ensures.one in
    let made = c.in-Ready.ensures in
    let same_key : made.0 ≡ key = one_key mid.session.register.stream c.args.id made.0 key made.1 has_key in
    let held : Contains mid.session.held key = subst (λ (k : Key). Contains mid.session.held k) same_key made.2 in
    let yes : c.same_picture.result ≡ true = search (rules, not_false) in
    let same : c.in-Ready.made ≡ c.args.picture = c.same_picture.ensures.0 yes in
    let added : (other : ℕ) → has new.ready other
    ≡ cond (has mid.gone number) (has mid.ready other) (cond (eqb number other) true (has mid.ready other)) =
    subst (λ (k : ℕ). (other : ℕ) → has new.ready other
    ≡ cond (has mid.gone k) (has mid.ready other) (cond (eqb k other) true (has mid.ready other))) c.number.ensures
    c.in_ok-add_ready.ensures.ready in
    Sees-ready journal books seat earlier old mid new c.args.id number key c.args.picture stays c.add_ready.ensures.own
    c.add_ready.ensures.session c.add_ready.ensures.gone added has_key numbered held
    (sym same ∙ (made.3 ∙ ap picture_of_key same_key)) one (c.in_ok-settle.ensures.follows journal books seat earlier replayed)
