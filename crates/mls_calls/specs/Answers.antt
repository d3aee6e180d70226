-- What each call of the library for C does.
use Rattle.std.specs.Prelude.{ℕ}
use Rattle.mls_calls.specs.Calls.{Does, SavesHeld, SavesHeldConversation, SpellsHeld, bytes_at, bytes_length, candidate_key_package, candidate_load, candidate_new, candidate_save, conversation_member_at, conversation_new, conversation_open, conversation_restore, conversation_seal, key_package_identity, member_at, member_commit, member_commit_kept, member_create, member_drop_pending, member_epoch, member_export, member_forget_proposal, member_group_id, member_inspect, member_join, member_leaf_count, member_leaf_index, member_load, member_missing_proposal, member_pending_commit, member_process, member_propose_add, member_propose_extensions, member_propose_remove, member_propose_update, member_reference, message_place, refusal_name_of}
use Rattle.mls_calls.specs.Given.{Text}
use Rattle.mls_calls.specs.Shown.{Shown}
use Rattle.mls_calls.specs.declared.call.Call.{Call}
use Rattle.mls_calls.specs.declared.call.Call.TheVariants.{BytesLength, CandidateNew, CandidateKeyPackage, MemberCreate, MemberJoin, MemberEpoch, MemberGroupId, MemberProcess, MemberProposeAdd, MemberProposeUpdate, MemberCommitKept, MemberProposeRemove, MemberDropPending, MemberLeafIndex, BytesAt, RefusalName, CandidateSave, CandidateLoad, MemberSave, MemberLoad, MemberExport, MemberLeafCount, MemberAt, MemberProposeExtensions, ConversationNew, ConversationSeal, ConversationOpen, MemberCommit, MemberInspect, MemberReference, MemberExtensions, KeyPackageIdentity, ConversationMemberAt, MemberForgetProposal, MemberPendingCommit, MessagePlace, ConversationSave, ConversationRestore, MemberMissingProposal}
use Rattle.mls_calls.specs.declared.done.Done.{Done}

-- a call does what its definition says, given a number, what its handle holds, and three texts
abbrev pub DoesCall : Call → ℕ → Shown → Text → Text → Text → Done → Type 0
DoesCall BytesLength number held first second third done = Does (bytes_length held) held done
DoesCall CandidateNew number held first second third done =
    Does (candidate_new held first second) held done
DoesCall CandidateKeyPackage number held first second third done =
    Does (candidate_key_package held) held done
DoesCall MemberCreate number held first second third done =
    Does (member_create held first second) held done
DoesCall MemberJoin number held first second third done = Does (member_join held first) held done
DoesCall MemberEpoch number held first second third done = Does (member_epoch held) held done
DoesCall MemberGroupId number held first second third done = Does (member_group_id held) held done
DoesCall MemberProcess number held first second third done =
    Does (member_process held first) held done
DoesCall MemberProposeAdd number held first second third done =
    Does (member_propose_add held first) held done
DoesCall MemberProposeUpdate number held first second third done =
    Does (member_propose_update held first) held done
DoesCall MemberCommitKept number held first second third done =
    Does (member_commit_kept held number first) held done
DoesCall MemberProposeRemove number held first second third done =
    Does (member_propose_remove held number) held done
DoesCall MemberDropPending number held first second third done =
    Does (member_drop_pending held) held done
DoesCall MemberLeafIndex number held first second third done =
    Does (member_leaf_index held) held done
DoesCall BytesAt number held first second third done = Does (bytes_at held number) held done
DoesCall RefusalName number held first second third done =
    Does (refusal_name_of held number) held done
DoesCall CandidateSave number held first second third done = Does (candidate_save held) held done
DoesCall CandidateLoad number held first second third done =
    Does (candidate_load held first) held done
DoesCall MemberSave number held first second third done = SavesHeld held done
DoesCall MemberLoad number held first second third done = Does (member_load held first) held done
DoesCall MemberExport number held first second third done =
    Does (member_export held first second number) held done
DoesCall MemberLeafCount number held first second third done =
    Does (member_leaf_count held) held done
DoesCall MemberAt number held first second third done = Does (member_at held number) held done
DoesCall MemberProposeExtensions number held first second third done =
    Does (member_propose_extensions held first) held done
DoesCall MemberCommit number held first second third done =
    Does (member_commit held first number second) held done
DoesCall ConversationNew number held first second third done =
    Does (conversation_new held) held done
DoesCall ConversationSeal number held first second third done =
    Does (conversation_seal held number first second third) held done
DoesCall ConversationOpen number held first second third done =
    Does (conversation_open held first) held done
DoesCall MemberInspect number held first second third done =
    Does (member_inspect held first) held done
DoesCall MemberReference number held first second third done =
    Does (member_reference held first) held done
DoesCall MemberExtensions number held first second third done = SpellsHeld held done
DoesCall KeyPackageIdentity number held first second third done =
    Does (key_package_identity held first) held done
DoesCall ConversationMemberAt number held first second third done =
    Does (conversation_member_at held number) held done
DoesCall MemberForgetProposal number held first second third done =
    Does (member_forget_proposal held first) held done
DoesCall MemberPendingCommit number held first second third done =
    Does (member_pending_commit held) held done
DoesCall MessagePlace number held first second third done =
    Does (message_place held first) held done
DoesCall ConversationSave number held first second third done = SavesHeldConversation held done
DoesCall ConversationRestore number held first second third done =
    Does (conversation_restore held first) held done
DoesCall MemberMissingProposal number held first second third done =
    Does (member_missing_proposal held first number) held done
