use Rattle.std.proofs.Common.{◌∙◌, ap, List, ℕ}
use Rattle.std.specs.Prelude.{codes}
use Rattle.mls_kdf.specs.Kdf.{ref_hash}
use Rattle.mls_types.specs.Reference.{proposal_reference}
use Rattle.mls_view.proofs.SliceInputs.{authenticated_is}
use Rattle.mls_view.proofs.public_message.PublicMessageView.reference.Goals as goal

pub returns : goal.returns
unfolding proposal_reference
returns c = λ shown shows. c.reference_of.ensures ∙ ap (λ (l : List ℕ). ref_hash (codes "MLS 1.0 Proposal Reference") l) (authenticated_is c.args.self.now shown shows)
