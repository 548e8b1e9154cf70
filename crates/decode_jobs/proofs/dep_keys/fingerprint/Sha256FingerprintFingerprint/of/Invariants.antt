use Rattle.std.proofs.Common.{take}
use Rattle.std.specs.List.{flat_map}
use Rattle.decode_jobs.specs.Messages.{entry_bytes}
use Rattle.sha2.specs.Hashers.{Holds256}
use Rattle.decode_jobs.proofs.dep_keys.fingerprint.Sha256FingerprintFingerprint.of.Given as goal

abbrev pub invariant-loop-entry : goal.invariant-loop-entry
invariant-loop-entry g l =
    Holds256 l.hasher (flat_map entry_bytes (take l.entry-index l.entry-items))
