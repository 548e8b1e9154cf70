use Rattle.decode_jobs.proofs.Building.{snoc_extends}
use Rattle.decode_jobs.proofs.Kept.{kept_map, kept_more, interned_found, interned_added, live_below}
use Rattle.decode_jobs.proofs.dep_keys.keys.Keys.intern.Goals as goal

pub returns-in_err-fingerprint-clause-map : goal.returns-in_err-fingerprint-clause-map
returns-in_err-fingerprint-clause-map g c =
    kept_map g.F.Fingerprint.digest c.self.inside.slots.items c.self.inside.numbers c.self.inside.index c.self.invariant

pub returns-in_err-key-in-None-clause-map : goal.returns-in_err-key-in-None-clause-map
returns-in_err-key-in-None-clause-map g c =
    rw (c.in_err-key-in-None.ensures.err.0) (kept_map g.F.Fingerprint.digest c.self.inside.slots.items c.self.inside.numbers c.self.inside.index c.self.invariant)

pub invariant_of-self-in-None : goal.invariant_of-self-in-None
invariant_of-self-in-None g c =
    rw (c.in_ok-key-in-None.ensures.slots, c.in_ok-key-in-None.ensures.numbers, c.in_ok-key-in-None.ensures.index)
    (kept_more g.F.Fingerprint.digest c.self.inside.slots.items c.self.inside.numbers c.self.inside.index c.self.invariant
    c.in_ok-fingerprint.fingerprint c.args.node c.in_ok-key-in-None.key (rw (← c.self.view_is) at c.requires) c.in_ok-fingerprint.ensures
    (rw c.deref.ensures.value at c.in-None.ensures) c.in_ok-key-in-None.ensures.least.unused)

pub returns-in-Some-clause-ok : goal.returns-in-Some-clause-ok
returns-in-Some-clause-ok g c =
    rw (← c.self.view_is)
    (interned_found g.F.Fingerprint.digest c.self.inside.slots.items c.self.inside.numbers c.self.inside.index c.self.invariant
    c.in_ok-fingerprint.fingerprint c.args.node c.in-Some.key (rw c.deref.ensures.value at c.in-Some.ensures))

pub returns-in-Some-clause-map : goal.returns-in-Some-clause-map
returns-in-Some-clause-map g c =
    kept_map g.F.Fingerprint.digest c.self.inside.slots.items c.self.inside.numbers c.self.inside.index c.self.invariant

pub returns-in_ok-key-in-None-clause-ok : goal.returns-in_ok-key-in-None-clause-ok
returns-in_ok-key-in-None-clause-ok g c =
    rw (← c.self.view_is, c.in_ok-key-in-None.ensures.slots)
    (interned_added g.F.Fingerprint.digest c.self.inside.slots.items c.self.inside.numbers c.self.inside.index c.self.invariant
    c.in_ok-fingerprint.fingerprint c.args.node c.in_ok-key-in-None.key (rw (← c.self.view_is) at c.requires) c.in_ok-fingerprint.ensures
    (rw c.deref.ensures.value at c.in-None.ensures) c.in_ok-key-in-None.ensures.least.unused)

pub returns-in_ok-key-in-None-clause-map : goal.returns-in_ok-key-in-None-clause-map
returns-in_ok-key-in-None-clause-map g c =
    rw (c.in_ok-key-in-None.ensures.slots)
    (kept_map g.F.Fingerprint.digest _ _ _
    (kept_more g.F.Fingerprint.digest c.self.inside.slots.items c.self.inside.numbers c.self.inside.index c.self.invariant
    c.in_ok-fingerprint.fingerprint c.args.node c.in_ok-key-in-None.key (rw (← c.self.view_is) at c.requires) c.in_ok-fingerprint.ensures
    (rw c.deref.ensures.value at c.in-None.ensures) c.in_ok-key-in-None.ensures.least.unused))

pub returns-in_ok-key-in-None-clause-stay : goal.returns-in_ok-key-in-None-clause-stay
returns-in_ok-key-in-None-clause-stay g c =
    rw (← c.self.view_is, c.in_ok-key-in-None.ensures.slots)
    (snoc_extends c.self.inside.slots.items (c.in_ok-key-in-None.key, c.args.node))

pub returns-in-Some-clause-least : goal.returns-in-Some-clause-least
returns-in-Some-clause-least g c =
    rw (← c.self.view_is) (λ new. absurd (new c.in-Some.key
    (interned_found g.F.Fingerprint.digest c.self.inside.slots.items c.self.inside.numbers c.self.inside.index c.self.invariant
    c.in_ok-fingerprint.fingerprint c.args.node c.in-Some.key (rw c.deref.ensures.value at c.in-Some.ensures)).there))

pub returns-in_ok-key-in-None-clause-least : goal.returns-in_ok-key-in-None-clause-least
returns-in_ok-key-in-None-clause-least g c =
    rw (← c.self.view_is)
    (λ new. live_below g.F.Fingerprint.digest c.self.inside.slots.items c.self.inside.numbers c.self.inside.index c.self.invariant
    c.in_ok-key-in-None.key c.in_ok-key-in-None.ensures.least)
