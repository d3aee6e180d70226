-- What a member commits (RFC 9420, 12.4.1).
use Rattle.std.specs.Prelude.{ℕ, Bool, List, Option, Result, Ok}
use Rattle.mls_wire.specs.Reading.{◌>>=◌}
use Rattle.mls_types.specs.declared.commit.ProposalOrRef.{ProposalOrRef}
use Rattle.mls_suite.specs.Crypto.{Crypto}
use Rattle.mls_model.specs.Make.{Made, commit_from_proposals}
use Rattle.mls_model.specs.Member.{Member, find_proposals, with_pending}

-- what is made of a list: `UnknownReference` (60) a reference isn't kept, and then all that stands behind it
abbrev pub made_of_list : Crypto → Member → List ProposalOrRef → Bool → List ℕ → Result Made ℕ
made_of_list c m list wants_path seed =
    find_proposals m.kept m.keys.leaf list
    >>= λ used. commit_from_proposals c m list used wants_path seed

-- the messages, and the member with the state that they lead to as pending
abbrev pub keep_pending : Member → Made → Result ((List ℕ × Option (List ℕ)) × Member) ℕ
keep_pending m made = Ok ((made.commit, made.welcome), with_pending m made.pending)
