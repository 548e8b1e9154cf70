use Rattle.std.proofs.Common.{◌≡◌, drop, map}
use Rattle.std.specs.List.{list_all}
use Rattle.stream_reasons.specs.Signatures.{placed, stands}
use Rattle.stream_reasons.proofs.file_kinds.signatures.all_stand.Given as goal

-- all marks so far stand
abbrev pub invariant-loop-signature : goal.invariant-loop-signature
invariant-loop-signature l = list_all (stands l.bytes) (map placed (drop l.signature-index l.signatures)) ≡ list_all (stands l.bytes) (map placed l.signatures)
