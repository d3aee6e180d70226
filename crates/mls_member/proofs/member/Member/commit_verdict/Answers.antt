use Rattle.std.proofs.Common.{refl, sym, ◌∙◌}
use Rattle.mls_types.specs.SignedParts.{framed_content_of}
use Rattle.mls_member.proofs.CommitSteps.{last_epoch, has_room, commit_same, tag_is, commit_does}
use Rattle.mls_member.proofs.member.Member.commit_verdict.Goals as goal

pub returns-then-not-has_next : goal.returns-then-not-has_next
returns-then-not-has_next g c = λ shown commit tag shows is list path. (refl, λ _. last_epoch g.S.Suite.crypto c.args.self.now shown.content commit tag (sym c.has_next.ensures ∙ c.if-not-has_next.true))

pub follow_commit-requires-clause-epoch : goal.follow_commit-requires-clause-epoch
follow_commit-requires-clause-epoch g c = has_room _ (sym c.has_next.ensures ∙ c.if-not-has_next.false)

pub returns : goal.returns
returns g c = λ shown commit tag shows is list path.
    commit_does g.S.Suite.crypto c.args.self.now _ shown.content commit c.in_ok-commit.commit tag _ _ _ _ (sym c.has_next.ensures ∙ c.if-not-has_next.false) (rw c.sender_leaf-committer.ensures (rw shows.content.sender refl)) shows.signature
    (commit_same _ _ _ _ c.in_ok-commit.ensures.list c.in_ok-commit.ensures.path list path) (tag_is _ _ _ _ _ shows.confirmation_tag is c.tag_of-tag.ensures.tag)
    (c.follow_commit.ensures (framed_content_of shown.content) (sym shows.framed_content))
