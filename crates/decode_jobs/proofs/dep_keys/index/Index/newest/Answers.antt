use Rattle.decode_jobs.proofs.dep_keys.index.Index.newest.Goals as goal

-- src/index.rt:59:5
pub returns : goal.returns
returns c = rw (c.copied.ensures, c.get.ensures.value, ← c.self.view_is) (c.self.invariant.last c.args.fingerprint.now)
