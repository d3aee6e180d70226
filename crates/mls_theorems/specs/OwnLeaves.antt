-- Members in one public state with different signature keys stand at different leaves.
use Rattle.std.specs.Prelude.{◌≡◌, ◌≢◌}
use Rattle.mls_suite.specs.Crypto.{Crypto}
use Rattle.mls_model.specs.MemberInvariant.{IsGoodMember}
use Rattle.mls_model.specs.Member.{Member}

abbrev pub OwnLeaves : Type 0
OwnLeaves = (c : Crypto) (m n : Member) → IsGoodMember c m → IsGoodMember c n → m.public ≡ n.public →
    c.sig_public m.signing ≢ c.sig_public n.signing → m.keys.leaf ≢ n.keys.leaf
