-- What a commit call that succeeded found and made.
use Rattle.std.proofs.Common.{◌≡◌, ℕ, List, Result, Ok, ap, ◌∙◌}
use Rattle.mls_types.specs.declared.commit.Commit.{Commit}
use Rattle.mls_types.specs.declared.content.FramedContent.{FramedContent}
use Rattle.mls_suite.specs.Crypto.{Crypto}
use Rattle.mls_wire.specs.Laws.{ok_is}
use Rattle.mls_wire.specs.Reading.{◌>>=◌}
use Rattle.mls_model.specs.Commit.{Edits, Change, apply_proposals, change_after_edits, change_of_commit}
use Rattle.mls_model.specs.PublicState.{PublicState, Used}
use Rattle.mls_model.specs.Make.{make, path_with, commit_from_change, commit_from_path, commit_from_proposals}
use Rattle.mls_wire.proofs.CheckLaws.{require_ok, then_ok, bind_ok}
use Rattle.mls_theorems.specs.CommitCalls.{commit_of, said_of, signature_of, joiner_of, epoch_of, tag_of, content_of, message_of, made_of, MakeDid}

-- with its edits, what stands behind them is the whole
whole_change : (c : Crypto) (p : PublicState) (i : ℕ) (used : List Used) (commit : Commit) (said : FramedContent) (signature : List ℕ) (e : Edits) (change : Change) →
    apply_proposals c p i used ≡ Ok e → change_after_edits c p i used commit said signature e ≡ Ok change → change_of_commit c p i used commit said signature ≡ Ok change
unfolding change_of_commit
whole_change c p i used commit said signature e change edits rest =
    ap (λ (r : Result Edits ℕ). r >>= λ d. change_after_edits c p i used commit said signature d) edits ∙ rest

pub make_did : MakeDid
unfolding make commit_from_proposals path_with commit_from_path commit_from_change commit_of said_of signature_of joiner_of epoch_of tag_of content_of message_of made_of
make_did c m list wants_path seed made h =
    let s1 = require_ok _ _ _ _ h in
    let s2 = require_ok _ _ _ _ s1.1 in
    let s3 = require_ok _ _ _ _ s2.1 in
    let s4 = bind_ok _ _ _ s3.1 in
    let s5 = bind_ok _ _ _ s4.2 in
    let s6 = bind_ok _ _ _ s5.2 in
    let s7 = bind_ok _ _ _ s6.2 in
    let s8 = then_ok _ _ _ s7.2 in
    let s9 = bind_ok _ _ _ s8.1 in
    record {
      active = s1.0;
      free = s2.0;
      below = s3.0;
      used = s4.0;
      uses = s4.1;
      edits = s5.0;
      edits_are = s5.1;
      path = s6.0;
      path_is = s6.1;
      change = s7.0;
      change_is = whole_change c m.public m.keys.leaf s4.0 _ _ _ s5.0 s7.0 s5.1 s7.1;
      short = s8.0;
      welcome = s9.0;
      welcome_is = s9.1;
      made_is = ok_is _ _ s9.2;
    }
