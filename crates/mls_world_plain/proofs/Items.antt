-- What one of a commit's list stands for, by the bytes of its source.
use Rattle.std.proofs.Common.{◌≡◌, ℕ, List, Result, Ok, Err, refl, ◌∙◌}
use Rattle.mls_wire.specs.Checks.{require_some}
use Rattle.mls_wire.specs.Reading.{◌>>=◌}
use Rattle.mls_types.specs.declared.commit.ProposalOrRef.{ProposalOrRef}
use Rattle.mls_types.specs.declared.commit.ProposalOrRef.TheVariants as listed
use Rattle.mls_types.specs.declared.message.MlsMessage.{MlsMessage}
use Rattle.mls_types.specs.declared.signed.SignedContent.{SignedContent}
use Rattle.mls_model.specs.declared.event.Source.{Source}
use Rattle.mls_model.specs.declared.event.WorldItem.TheVariants.{RefOf}
use Rattle.mls_model.specs.Messages.{decode_message, reference_of}
use Rattle.mls_model.specs.World.{World, bytes_of, proposal_of, proposal_in, item_of}
use Rattle.mls_world_plain.specs.Sources.{read_reference}

abbrev pub the_reference : List ℕ → Result ProposalOrRef ℕ
the_reference x = Ok (listed.Reference x)

of_proposal : (r : Result SignedContent ℕ) → (r >>= λ v. Ok (listed.Reference (reference_of v))) ≡ ((r >>= λ v. Ok (reference_of v)) >>= λ x. the_reference x)
of_proposal (Ok v) = refl
of_proposal (Err n) = refl

of_message : (r : Result MlsMessage ℕ) → ((r >>= λ m. require_some 95 (proposal_in m)) >>= λ v. Ok (listed.Reference (reference_of v))) ≡ ((r >>= λ m. require_some 95 (proposal_in m) >>= λ v. Ok (reference_of v)) >>= λ x. the_reference x)
of_message (Ok m) = of_proposal (require_some 95 (proposal_in m))
of_message (Err n) = refl

referred : (w : World) (source : Source) (bytes : List ℕ) → bytes_of w source ≡ Ok bytes → item_of w (RefOf source) ≡ (read_reference bytes >>= λ x. the_reference x)
unfolding proposal_of read_reference
referred w source bytes e = rw e (of_message (decode_message bytes))

-- a proposal by reference (RFC 9420, 12.4)
pub item_referred : (w : World) (source : Source) (bytes reference : List ℕ) → bytes_of w source ≡ Ok bytes → read_reference bytes ≡ Ok reference → item_of w (RefOf source) ≡ Ok (listed.Reference reference)
item_referred w source bytes reference e h = referred w source bytes e ∙ (rw h refl)

pub item_unread : (w : World) (source : Source) (bytes : List ℕ) (n : ℕ) → bytes_of w source ≡ Ok bytes → read_reference bytes ≡ Err n → item_of w (RefOf source) ≡ Err n
item_unread w source bytes n e h = referred w source bytes e ∙ (rw h refl)

pub item_absent : (w : World) (source : Source) (n : ℕ) → bytes_of w source ≡ Err n → item_of w (RefOf source) ≡ Err n
unfolding proposal_of
item_absent w source n e = rw e refl
