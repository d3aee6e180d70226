use Rattle.mls_types.proofs.SignedParts.{signed_content_spelled, framed_signed_with}
use Rattle.mls_types.proofs.SignedLaws.{signed_content_read}
use Rattle.mls_types.proofs.laws.laws_of_signed_contents.Goals as goal

pub returns : goal.returns
returns c = record { spelled = signed_content_spelled; read = signed_content_read; left = framed_signed_with }
