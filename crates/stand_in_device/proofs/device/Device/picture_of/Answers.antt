use Rattle.std.proofs.Common.{ℕ, List, [], inl, refl, ap}
use Rattle.stand_in_device.specs.Pictures.{picture_of}
use Rattle.stand_in_device.proofs.device.Device.picture_of.Goals as goal

-- the frames are the references alone, and what was hashed is the records
pub returns : goal.returns
unfolding picture_of
returns c =
    let hashed = c.in_ok-decoding-2.ensures.digest [] (inl (c.in_ok-decoding.ensures, refl)) in
    let digest = c.finish-2.ensures _ hashed in
    let records = rw (c.self-2.view_is, c.in_ok-place_all.ensures, c.clear.ensures.items, c.references.ensures, c.requests-2.ensures) at digest in
    ap (λ (bytes : List ℕ). record { digest = bytes }) records
