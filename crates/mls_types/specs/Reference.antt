-- The reference of a proposal (RFC 9420, 5.2).
use Rattle.std.specs.Prelude.{ℕ, List, codes}
use Rattle.mls_kdf.specs.Kdf.{ref_hash}

-- ProposalRef (RFC 9420, 5.2): the reference hash of the bytes of its AuthenticatedContent
unfoldable pub proposal_reference : List ℕ → List ℕ
proposal_reference bytes = ref_hash (codes "MLS 1.0 Proposal Reference") bytes
