-- A join by a Welcome of a commit that was made, by the number of its record.
use Rattle.std.proofs.Common.{◌≡◌, ℕ, zero, suc, ◌<◌, List, [], ◌∷◌, length, Some, Ok, refl, ◌∙◌, slice_get, arith}
use Rattle.mls_suite.specs.Crypto.{Crypto}
use Rattle.mls_model.specs.declared.event.Reply.TheVariants as reply
use Rattle.mls_model.specs.declared.event.Source.{Source}
use Rattle.mls_model.specs.Journal.{CommitMade, with_entry}
use Rattle.mls_model.specs.Join.{JoinedMember, join_verdict}
use Rattle.mls_model.specs.WorldCalls.{join_answer}
use Rattle.mls_model.specs.World.{Entrant, World, entrant_at, bytes_of, with_new_member, commit_for_joiner}
use Rattle.mls_world_plain.proofs.Entering.{join_followed}

got : {X : Type 0} (xs : List X) (i : ℕ) → i < length xs → (x : X) × (slice_get xs i ≡ Some x)
got [] i lt = absurd (omega (arith, lt))
got (x ∷ xs) zero lt = (x, refl)
got (x ∷ xs) (suc i) lt = got xs i (omega (arith, lt))

pub join_made : (c : Crypto) (w new : World) (n k epoch i : ℕ) (source : Source) (bytes : List ℕ) (e : Entrant) (j : JoinedMember) → entrant_at w n ≡ Ok e → bytes_of w source ≡ Ok bytes → join_verdict c e.candidate bytes ≡ Ok j → commit_for_joiner w.commits source e.candidate ≡ slice_get w.commits i → i < length w.commits → k ≡ length w.seats → epoch ≡ j.member.public.context.epoch
    → ((x : Entrant) (d : CommitMade) → slice_get w.entrants n ≡ Some x → slice_get w.commits i ≡ Some d → new ≡ with_new_member w n x (record { member = j.member; journal = with_entry d.journal d.entry }))
    → join_answer c w n source ≡ Ok (reply.Joined k epoch, new)
join_made c w new n k epoch i source bytes e j there lent joined made lt at in_epoch h =
    let d = got w.commits i lt in
    join_followed c w new n k epoch i source bytes e j d.0 there lent joined (made ∙ d.1) at in_epoch (λ x q. h x d.0 q d.1)
