-- The format of a member.
use Rattle.std.specs.Prelude.{◌≡◌, refl}
use Rattle.std.proofs.Common.{◌⊎◌, inl, inr, lit<}
use Rattle.mls_wire.specs.Format.{Format}
use Rattle.mls_wire.specs.Combine.{◌⨾◌, image, behind, mark, nothing, case, others, by_uint8, vector, optional, byte_string}
use Rattle.mls_wire.specs.CombineReads.{IsNonempty}
use Rattle.mls_leaf.specs.Nonempty.{byte_string_nonempty, by_uint8_nonempty, first_nonempty, behind_nonempty, mark_nonempty}
use Rattle.mls_saved.specs.State.{saved_state}
use Rattle.mls_saved.specs.Kept.{saved_proposal, saved_proposal_nonempty}
use Rattle.mls_saved.specs.declared.member.Standing as standings
use Rattle.mls_saved.specs.declared.member.Standing.TheVariants.{Present, Removed}
use Rattle.mls_saved.specs.declared.member.SavedPending.{SavedPending}
use Rattle.mls_saved.specs.declared.member.SavedMember.{SavedMember}

-- ---- whether a member was removed

-- nothing stands behind either
abbrev pub Standings : Type 0
Standings = Unit {0} ⊎ (Unit {0} ⊎ ⊥)

-- the standing of its place in the list
abbrev pub make_standing : Standings → standings.Standing
make_standing (inl x) = Present
make_standing (inr (inl x)) = Removed
make_standing (inr (inr x)) = absurd x

-- the place of a standing in the list
abbrev pub standing_parts : standings.Standing → Standings
standing_parts Present = inl tt
standing_parts Removed = inr (inl tt)

pub standing_there : (v : standings.Standing) → make_standing (standing_parts v) ≡ v
standing_there Present = refl
standing_there Removed = refl

pub standing_back : (x : Standings) → standing_parts (make_standing x) ≡ x
standing_back (inl x) = refl
standing_back (inr (inl x)) = refl
standing_back (inr (inr x)) = absurd x

-- uint8: 0 in the group, 1 removed; another is `BadTag` (7)
unfoldable pub standing : Format standings.Standing
standing = image (by_uint8 (case 0 nothing (case 1 nothing (others 7)))) make_standing standing_parts standing_there (λ x _. standing_back x)

pub standing_nonempty : IsNonempty standing
unfolding standing
standing_nonempty v fits = by_uint8_nonempty (case 0 nothing (case 1 nothing (others 7))) (standing_parts v) fits

-- ---- a pending commit

-- message<V>, and what the member knows of the epoch that it leads to
unfoldable pub saved_pending : Format SavedPending
saved_pending = image (byte_string ⨾ saved_state) (λ x. record { message = x.0; state = x.1 }) (λ v. (v.message, v.state)) (λ v. refl) (λ x _. refl)

pub saved_pending_nonempty : IsNonempty saved_pending
unfolding saved_pending
saved_pending_nonempty v fits = first_nonempty byte_string saved_state byte_string_nonempty (v.message, v.state) fits

-- ---- the member

-- uint16 version (1, else `BadTag` (7)), its standing, what it knows of its epoch, signature_key<V>, kept proposals<V>,
-- optional pending commit
unfoldable pub saved_member : Format SavedMember
saved_member = behind (mark 1 7 (lit< tt)) (image (standing ⨾ saved_state ⨾ byte_string ⨾ vector saved_proposal saved_proposal_nonempty ⨾ optional saved_pending)
    (λ x. record { standing = x.0; state = x.1.0; signing = x.1.1.0; kept = x.1.1.1.0; pending = x.1.1.1.1 })
    (λ v. (v.standing, (v.state, (v.signing, (v.kept, v.pending)))))
    (λ v. refl) (λ x _. refl))

-- a spelling begins with the version
pub saved_member_nonempty : IsNonempty saved_member
unfolding saved_member
saved_member_nonempty = behind_nonempty (mark 1 7 (lit< tt)) (image (standing ⨾ saved_state ⨾ byte_string ⨾ vector saved_proposal saved_proposal_nonempty ⨾ optional saved_pending)
    (λ x. record { standing = x.0; state = x.1.0; signing = x.1.1.0; kept = x.1.1.1.0; pending = x.1.1.1.1 })
    (λ v. (v.standing, (v.state, (v.signing, (v.kept, v.pending)))))
    (λ v. refl) (λ x _. refl)) (mark_nonempty 1 7 (lit< tt))
