use Rattle.std.proofs.Common.{refl}
use Rattle.mls_types.specs.Commit.{commit}
use Rattle.mls_types.specs.Content.{content}
use Rattle.mls_types.specs.declared.content.Content.TheVariants as says
use Rattle.mls_view.proofs.content.read_content.Goals as goal

pub returns-in_ok-data-in-1 : goal.returns-in_ok-data-in-1
unfolding content
returns-in_ok-data-in-1 c = record { value = says.Application c.in_ok-data-in-1.data.now; is_read = rw (c.in_ok-u8.ensures, c.in-1.is, c.in_ok-data-in-1.ensures) refl; shows = refl }

pub returns-in_ok-proposal-in-2 : goal.returns-in_ok-proposal-in-2
unfolding content
returns-in_ok-proposal-in-2 c =
    let p = c.in_ok-proposal-in-2.ensures in
    record { value = says.Proposal p.value; is_read = rw (c.in_ok-u8.ensures, c.in-2.is, p.is_read) refl; shows = p.spells }

pub returns-in_ok-path-in-3 : goal.returns-in_ok-path-in-3
unfolding content commit
returns-in_ok-path-in-3 c =
    let p = c.in_ok-proposals-in-3.ensures in
    let q = c.in_ok-path-in-3.ensures in
    record { value = says.Commit (record { proposals = p.value; path = q.value }); is_read = rw (c.in_ok-u8.ensures, c.in-3.is, p.is_read, q.is_read) refl; shows = (p.spells, q.spells) }
