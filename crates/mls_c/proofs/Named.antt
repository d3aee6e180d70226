-- Each name of a call is made of nothing. Assumes `Logic`.
use Rattle.std.proofs.Common.{List, [], ◌∷◌, refl}
use seplogic.Ra.Ura.{Ura}
use mir.Val.{Val, of_list}
use base.Logic.{ent, emp}
use types.Logic.{Logic, sem}
use types.Kit.{◌$◌, ◌∵◌, !, qed, fjoin, fpack, feq_i, done}
use types.Match.{live}
use denote.RattleType.{Valss, owns}
use denote.Steps.{nothing}
use denote.Enum.Row.{tagged_with}
use denote.Enum.Enum.{form_of, in_a_row}
use denote.Enum.Declared.{shape}
use Rattle.mls_calls.specs.declared.call.Call.TheVariants.{BytesLength, CandidateNew, CandidateKeyPackage, MemberCreate, MemberJoin, MemberEpoch, MemberGroupId, MemberProcess, MemberProposeAdd, MemberProposeUpdate, MemberCommitKept, MemberProposeRemove, MemberDropPending, MemberLeafIndex, BytesAt, RefusalName, CandidateSave, CandidateLoad, MemberSave, MemberLoad, MemberExport, MemberLeafCount, MemberAt, MemberProposeExtensions, ConversationNew, ConversationSeal, ConversationOpen, MemberCommit, MemberInspect, MemberReference, MemberExtensions, KeyPackageIdentity, ConversationMemberAt, MemberForgetProposal, MemberPendingCommit, MessagePlace, ConversationSave, ConversationRestore, MemberMissingProposal}
use Rattle.mls_calls.specs.contracts.call.Call as call

pub made_BytesLength : {M : Type 1} {𝓤 : Ura M} (𝓛 : Logic 𝓤) → ent 𝓤 (emp 𝓤) (sem 𝓛 (call.the_row.own_val BytesLength (live 0 (of_list []) ∷ [])))
made_BytesLength 𝓛 = let v : Val = live 0 (of_list []) in
    qed 𝓛 [] ∵ nothing ! $ feq_i ! (List Val) [] [] refl $ fjoin ! $ fpack ! (Valss []) (in_a_row [] (owns [] tt) []) tt $ feq_i ! (List Val) (v ∷ []) (v ∷ []) refl $ fjoin ! $
    fpack ! (List Val) (tagged_with (form_of (shape call.the_type)) (form_of (shape call.the_type)).payload (call.the_type.to BytesLength) (v ∷ [])) [] $ done !

pub made_CandidateNew : {M : Type 1} {𝓤 : Ura M} (𝓛 : Logic 𝓤) → ent 𝓤 (emp 𝓤) (sem 𝓛 (call.the_row.own_val CandidateNew (live 1 (of_list []) ∷ [])))
made_CandidateNew 𝓛 = let v : Val = live 1 (of_list []) in
    qed 𝓛 [] ∵ nothing ! $ feq_i ! (List Val) [] [] refl $ fjoin ! $ fpack ! (Valss []) (in_a_row [] (owns [] tt) []) tt $ feq_i ! (List Val) (v ∷ []) (v ∷ []) refl $ fjoin ! $
    fpack ! (List Val) (tagged_with (form_of (shape call.the_type)) (form_of (shape call.the_type)).payload (call.the_type.to CandidateNew) (v ∷ [])) [] $ done !

pub made_CandidateKeyPackage : {M : Type 1} {𝓤 : Ura M} (𝓛 : Logic 𝓤) → ent 𝓤 (emp 𝓤) (sem 𝓛 (call.the_row.own_val CandidateKeyPackage (live 2 (of_list []) ∷ [])))
made_CandidateKeyPackage 𝓛 = let v : Val = live 2 (of_list []) in
    qed 𝓛 [] ∵ nothing ! $ feq_i ! (List Val) [] [] refl $ fjoin ! $ fpack ! (Valss []) (in_a_row [] (owns [] tt) []) tt $ feq_i ! (List Val) (v ∷ []) (v ∷ []) refl $ fjoin ! $
    fpack ! (List Val) (tagged_with (form_of (shape call.the_type)) (form_of (shape call.the_type)).payload (call.the_type.to CandidateKeyPackage) (v ∷ [])) [] $ done !

pub made_MemberCreate : {M : Type 1} {𝓤 : Ura M} (𝓛 : Logic 𝓤) → ent 𝓤 (emp 𝓤) (sem 𝓛 (call.the_row.own_val MemberCreate (live 3 (of_list []) ∷ [])))
made_MemberCreate 𝓛 = let v : Val = live 3 (of_list []) in
    qed 𝓛 [] ∵ nothing ! $ feq_i ! (List Val) [] [] refl $ fjoin ! $ fpack ! (Valss []) (in_a_row [] (owns [] tt) []) tt $ feq_i ! (List Val) (v ∷ []) (v ∷ []) refl $ fjoin ! $
    fpack ! (List Val) (tagged_with (form_of (shape call.the_type)) (form_of (shape call.the_type)).payload (call.the_type.to MemberCreate) (v ∷ [])) [] $ done !

pub made_MemberJoin : {M : Type 1} {𝓤 : Ura M} (𝓛 : Logic 𝓤) → ent 𝓤 (emp 𝓤) (sem 𝓛 (call.the_row.own_val MemberJoin (live 4 (of_list []) ∷ [])))
made_MemberJoin 𝓛 = let v : Val = live 4 (of_list []) in
    qed 𝓛 [] ∵ nothing ! $ feq_i ! (List Val) [] [] refl $ fjoin ! $ fpack ! (Valss []) (in_a_row [] (owns [] tt) []) tt $ feq_i ! (List Val) (v ∷ []) (v ∷ []) refl $ fjoin ! $
    fpack ! (List Val) (tagged_with (form_of (shape call.the_type)) (form_of (shape call.the_type)).payload (call.the_type.to MemberJoin) (v ∷ [])) [] $ done !

pub made_MemberEpoch : {M : Type 1} {𝓤 : Ura M} (𝓛 : Logic 𝓤) → ent 𝓤 (emp 𝓤) (sem 𝓛 (call.the_row.own_val MemberEpoch (live 5 (of_list []) ∷ [])))
made_MemberEpoch 𝓛 = let v : Val = live 5 (of_list []) in
    qed 𝓛 [] ∵ nothing ! $ feq_i ! (List Val) [] [] refl $ fjoin ! $ fpack ! (Valss []) (in_a_row [] (owns [] tt) []) tt $ feq_i ! (List Val) (v ∷ []) (v ∷ []) refl $ fjoin ! $
    fpack ! (List Val) (tagged_with (form_of (shape call.the_type)) (form_of (shape call.the_type)).payload (call.the_type.to MemberEpoch) (v ∷ [])) [] $ done !

pub made_MemberGroupId : {M : Type 1} {𝓤 : Ura M} (𝓛 : Logic 𝓤) → ent 𝓤 (emp 𝓤) (sem 𝓛 (call.the_row.own_val MemberGroupId (live 6 (of_list []) ∷ [])))
made_MemberGroupId 𝓛 = let v : Val = live 6 (of_list []) in
    qed 𝓛 [] ∵ nothing ! $ feq_i ! (List Val) [] [] refl $ fjoin ! $ fpack ! (Valss []) (in_a_row [] (owns [] tt) []) tt $ feq_i ! (List Val) (v ∷ []) (v ∷ []) refl $ fjoin ! $
    fpack ! (List Val) (tagged_with (form_of (shape call.the_type)) (form_of (shape call.the_type)).payload (call.the_type.to MemberGroupId) (v ∷ [])) [] $ done !

pub made_MemberProcess : {M : Type 1} {𝓤 : Ura M} (𝓛 : Logic 𝓤) → ent 𝓤 (emp 𝓤) (sem 𝓛 (call.the_row.own_val MemberProcess (live 7 (of_list []) ∷ [])))
made_MemberProcess 𝓛 = let v : Val = live 7 (of_list []) in
    qed 𝓛 [] ∵ nothing ! $ feq_i ! (List Val) [] [] refl $ fjoin ! $ fpack ! (Valss []) (in_a_row [] (owns [] tt) []) tt $ feq_i ! (List Val) (v ∷ []) (v ∷ []) refl $ fjoin ! $
    fpack ! (List Val) (tagged_with (form_of (shape call.the_type)) (form_of (shape call.the_type)).payload (call.the_type.to MemberProcess) (v ∷ [])) [] $ done !

pub made_MemberProposeAdd : {M : Type 1} {𝓤 : Ura M} (𝓛 : Logic 𝓤) → ent 𝓤 (emp 𝓤) (sem 𝓛 (call.the_row.own_val MemberProposeAdd (live 8 (of_list []) ∷ [])))
made_MemberProposeAdd 𝓛 = let v : Val = live 8 (of_list []) in
    qed 𝓛 [] ∵ nothing ! $ feq_i ! (List Val) [] [] refl $ fjoin ! $ fpack ! (Valss []) (in_a_row [] (owns [] tt) []) tt $ feq_i ! (List Val) (v ∷ []) (v ∷ []) refl $ fjoin ! $
    fpack ! (List Val) (tagged_with (form_of (shape call.the_type)) (form_of (shape call.the_type)).payload (call.the_type.to MemberProposeAdd) (v ∷ [])) [] $ done !

pub made_MemberProposeUpdate : {M : Type 1} {𝓤 : Ura M} (𝓛 : Logic 𝓤) → ent 𝓤 (emp 𝓤) (sem 𝓛 (call.the_row.own_val MemberProposeUpdate (live 9 (of_list []) ∷ [])))
made_MemberProposeUpdate 𝓛 = let v : Val = live 9 (of_list []) in
    qed 𝓛 [] ∵ nothing ! $ feq_i ! (List Val) [] [] refl $ fjoin ! $ fpack ! (Valss []) (in_a_row [] (owns [] tt) []) tt $ feq_i ! (List Val) (v ∷ []) (v ∷ []) refl $ fjoin ! $
    fpack ! (List Val) (tagged_with (form_of (shape call.the_type)) (form_of (shape call.the_type)).payload (call.the_type.to MemberProposeUpdate) (v ∷ [])) [] $ done !

pub made_MemberCommitKept : {M : Type 1} {𝓤 : Ura M} (𝓛 : Logic 𝓤) → ent 𝓤 (emp 𝓤) (sem 𝓛 (call.the_row.own_val MemberCommitKept (live 10 (of_list []) ∷ [])))
made_MemberCommitKept 𝓛 = let v : Val = live 10 (of_list []) in
    qed 𝓛 [] ∵ nothing ! $ feq_i ! (List Val) [] [] refl $ fjoin ! $ fpack ! (Valss []) (in_a_row [] (owns [] tt) []) tt $ feq_i ! (List Val) (v ∷ []) (v ∷ []) refl $ fjoin ! $
    fpack ! (List Val) (tagged_with (form_of (shape call.the_type)) (form_of (shape call.the_type)).payload (call.the_type.to MemberCommitKept) (v ∷ [])) [] $ done !

pub made_MemberProposeRemove : {M : Type 1} {𝓤 : Ura M} (𝓛 : Logic 𝓤) → ent 𝓤 (emp 𝓤) (sem 𝓛 (call.the_row.own_val MemberProposeRemove (live 11 (of_list []) ∷ [])))
made_MemberProposeRemove 𝓛 = let v : Val = live 11 (of_list []) in
    qed 𝓛 [] ∵ nothing ! $ feq_i ! (List Val) [] [] refl $ fjoin ! $ fpack ! (Valss []) (in_a_row [] (owns [] tt) []) tt $ feq_i ! (List Val) (v ∷ []) (v ∷ []) refl $ fjoin ! $
    fpack ! (List Val) (tagged_with (form_of (shape call.the_type)) (form_of (shape call.the_type)).payload (call.the_type.to MemberProposeRemove) (v ∷ [])) [] $ done !

pub made_MemberDropPending : {M : Type 1} {𝓤 : Ura M} (𝓛 : Logic 𝓤) → ent 𝓤 (emp 𝓤) (sem 𝓛 (call.the_row.own_val MemberDropPending (live 12 (of_list []) ∷ [])))
made_MemberDropPending 𝓛 = let v : Val = live 12 (of_list []) in
    qed 𝓛 [] ∵ nothing ! $ feq_i ! (List Val) [] [] refl $ fjoin ! $ fpack ! (Valss []) (in_a_row [] (owns [] tt) []) tt $ feq_i ! (List Val) (v ∷ []) (v ∷ []) refl $ fjoin ! $
    fpack ! (List Val) (tagged_with (form_of (shape call.the_type)) (form_of (shape call.the_type)).payload (call.the_type.to MemberDropPending) (v ∷ [])) [] $ done !

pub made_MemberLeafIndex : {M : Type 1} {𝓤 : Ura M} (𝓛 : Logic 𝓤) → ent 𝓤 (emp 𝓤) (sem 𝓛 (call.the_row.own_val MemberLeafIndex (live 13 (of_list []) ∷ [])))
made_MemberLeafIndex 𝓛 = let v : Val = live 13 (of_list []) in
    qed 𝓛 [] ∵ nothing ! $ feq_i ! (List Val) [] [] refl $ fjoin ! $ fpack ! (Valss []) (in_a_row [] (owns [] tt) []) tt $ feq_i ! (List Val) (v ∷ []) (v ∷ []) refl $ fjoin ! $
    fpack ! (List Val) (tagged_with (form_of (shape call.the_type)) (form_of (shape call.the_type)).payload (call.the_type.to MemberLeafIndex) (v ∷ [])) [] $ done !

pub made_BytesAt : {M : Type 1} {𝓤 : Ura M} (𝓛 : Logic 𝓤) → ent 𝓤 (emp 𝓤) (sem 𝓛 (call.the_row.own_val BytesAt (live 14 (of_list []) ∷ [])))
made_BytesAt 𝓛 = let v : Val = live 14 (of_list []) in
    qed 𝓛 [] ∵ nothing ! $ feq_i ! (List Val) [] [] refl $ fjoin ! $ fpack ! (Valss []) (in_a_row [] (owns [] tt) []) tt $ feq_i ! (List Val) (v ∷ []) (v ∷ []) refl $ fjoin ! $
    fpack ! (List Val) (tagged_with (form_of (shape call.the_type)) (form_of (shape call.the_type)).payload (call.the_type.to BytesAt) (v ∷ [])) [] $ done !

pub made_RefusalName : {M : Type 1} {𝓤 : Ura M} (𝓛 : Logic 𝓤) → ent 𝓤 (emp 𝓤) (sem 𝓛 (call.the_row.own_val RefusalName (live 15 (of_list []) ∷ [])))
made_RefusalName 𝓛 = let v : Val = live 15 (of_list []) in
    qed 𝓛 [] ∵ nothing ! $ feq_i ! (List Val) [] [] refl $ fjoin ! $ fpack ! (Valss []) (in_a_row [] (owns [] tt) []) tt $ feq_i ! (List Val) (v ∷ []) (v ∷ []) refl $ fjoin ! $
    fpack ! (List Val) (tagged_with (form_of (shape call.the_type)) (form_of (shape call.the_type)).payload (call.the_type.to RefusalName) (v ∷ [])) [] $ done !

pub made_CandidateSave : {M : Type 1} {𝓤 : Ura M} (𝓛 : Logic 𝓤) → ent 𝓤 (emp 𝓤) (sem 𝓛 (call.the_row.own_val CandidateSave (live 16 (of_list []) ∷ [])))
made_CandidateSave 𝓛 = let v : Val = live 16 (of_list []) in
    qed 𝓛 [] ∵ nothing ! $ feq_i ! (List Val) [] [] refl $ fjoin ! $ fpack ! (Valss []) (in_a_row [] (owns [] tt) []) tt $ feq_i ! (List Val) (v ∷ []) (v ∷ []) refl $ fjoin ! $
    fpack ! (List Val) (tagged_with (form_of (shape call.the_type)) (form_of (shape call.the_type)).payload (call.the_type.to CandidateSave) (v ∷ [])) [] $ done !

pub made_CandidateLoad : {M : Type 1} {𝓤 : Ura M} (𝓛 : Logic 𝓤) → ent 𝓤 (emp 𝓤) (sem 𝓛 (call.the_row.own_val CandidateLoad (live 17 (of_list []) ∷ [])))
made_CandidateLoad 𝓛 = let v : Val = live 17 (of_list []) in
    qed 𝓛 [] ∵ nothing ! $ feq_i ! (List Val) [] [] refl $ fjoin ! $ fpack ! (Valss []) (in_a_row [] (owns [] tt) []) tt $ feq_i ! (List Val) (v ∷ []) (v ∷ []) refl $ fjoin ! $
    fpack ! (List Val) (tagged_with (form_of (shape call.the_type)) (form_of (shape call.the_type)).payload (call.the_type.to CandidateLoad) (v ∷ [])) [] $ done !

pub made_MemberSave : {M : Type 1} {𝓤 : Ura M} (𝓛 : Logic 𝓤) → ent 𝓤 (emp 𝓤) (sem 𝓛 (call.the_row.own_val MemberSave (live 18 (of_list []) ∷ [])))
made_MemberSave 𝓛 = let v : Val = live 18 (of_list []) in
    qed 𝓛 [] ∵ nothing ! $ feq_i ! (List Val) [] [] refl $ fjoin ! $ fpack ! (Valss []) (in_a_row [] (owns [] tt) []) tt $ feq_i ! (List Val) (v ∷ []) (v ∷ []) refl $ fjoin ! $
    fpack ! (List Val) (tagged_with (form_of (shape call.the_type)) (form_of (shape call.the_type)).payload (call.the_type.to MemberSave) (v ∷ [])) [] $ done !

pub made_MemberLoad : {M : Type 1} {𝓤 : Ura M} (𝓛 : Logic 𝓤) → ent 𝓤 (emp 𝓤) (sem 𝓛 (call.the_row.own_val MemberLoad (live 19 (of_list []) ∷ [])))
made_MemberLoad 𝓛 = let v : Val = live 19 (of_list []) in
    qed 𝓛 [] ∵ nothing ! $ feq_i ! (List Val) [] [] refl $ fjoin ! $ fpack ! (Valss []) (in_a_row [] (owns [] tt) []) tt $ feq_i ! (List Val) (v ∷ []) (v ∷ []) refl $ fjoin ! $
    fpack ! (List Val) (tagged_with (form_of (shape call.the_type)) (form_of (shape call.the_type)).payload (call.the_type.to MemberLoad) (v ∷ [])) [] $ done !

pub made_MemberExport : {M : Type 1} {𝓤 : Ura M} (𝓛 : Logic 𝓤) → ent 𝓤 (emp 𝓤) (sem 𝓛 (call.the_row.own_val MemberExport (live 20 (of_list []) ∷ [])))
made_MemberExport 𝓛 = let v : Val = live 20 (of_list []) in
    qed 𝓛 [] ∵ nothing ! $ feq_i ! (List Val) [] [] refl $ fjoin ! $ fpack ! (Valss []) (in_a_row [] (owns [] tt) []) tt $ feq_i ! (List Val) (v ∷ []) (v ∷ []) refl $ fjoin ! $
    fpack ! (List Val) (tagged_with (form_of (shape call.the_type)) (form_of (shape call.the_type)).payload (call.the_type.to MemberExport) (v ∷ [])) [] $ done !

pub made_MemberLeafCount : {M : Type 1} {𝓤 : Ura M} (𝓛 : Logic 𝓤) → ent 𝓤 (emp 𝓤) (sem 𝓛 (call.the_row.own_val MemberLeafCount (live 21 (of_list []) ∷ [])))
made_MemberLeafCount 𝓛 = let v : Val = live 21 (of_list []) in
    qed 𝓛 [] ∵ nothing ! $ feq_i ! (List Val) [] [] refl $ fjoin ! $ fpack ! (Valss []) (in_a_row [] (owns [] tt) []) tt $ feq_i ! (List Val) (v ∷ []) (v ∷ []) refl $ fjoin ! $
    fpack ! (List Val) (tagged_with (form_of (shape call.the_type)) (form_of (shape call.the_type)).payload (call.the_type.to MemberLeafCount) (v ∷ [])) [] $ done !

pub made_MemberAt : {M : Type 1} {𝓤 : Ura M} (𝓛 : Logic 𝓤) → ent 𝓤 (emp 𝓤) (sem 𝓛 (call.the_row.own_val MemberAt (live 22 (of_list []) ∷ [])))
made_MemberAt 𝓛 = let v : Val = live 22 (of_list []) in
    qed 𝓛 [] ∵ nothing ! $ feq_i ! (List Val) [] [] refl $ fjoin ! $ fpack ! (Valss []) (in_a_row [] (owns [] tt) []) tt $ feq_i ! (List Val) (v ∷ []) (v ∷ []) refl $ fjoin ! $
    fpack ! (List Val) (tagged_with (form_of (shape call.the_type)) (form_of (shape call.the_type)).payload (call.the_type.to MemberAt) (v ∷ [])) [] $ done !

pub made_MemberProposeExtensions : {M : Type 1} {𝓤 : Ura M} (𝓛 : Logic 𝓤) → ent 𝓤 (emp 𝓤) (sem 𝓛 (call.the_row.own_val MemberProposeExtensions (live 23 (of_list []) ∷ [])))
made_MemberProposeExtensions 𝓛 = let v : Val = live 23 (of_list []) in
    qed 𝓛 [] ∵ nothing ! $ feq_i ! (List Val) [] [] refl $ fjoin ! $ fpack ! (Valss []) (in_a_row [] (owns [] tt) []) tt $ feq_i ! (List Val) (v ∷ []) (v ∷ []) refl $ fjoin ! $
    fpack ! (List Val) (tagged_with (form_of (shape call.the_type)) (form_of (shape call.the_type)).payload (call.the_type.to MemberProposeExtensions) (v ∷ [])) [] $ done !

pub made_ConversationNew : {M : Type 1} {𝓤 : Ura M} (𝓛 : Logic 𝓤) → ent 𝓤 (emp 𝓤) (sem 𝓛 (call.the_row.own_val ConversationNew (live 24 (of_list []) ∷ [])))
made_ConversationNew 𝓛 = let v : Val = live 24 (of_list []) in
    qed 𝓛 [] ∵ nothing ! $ feq_i ! (List Val) [] [] refl $ fjoin ! $ fpack ! (Valss []) (in_a_row [] (owns [] tt) []) tt $ feq_i ! (List Val) (v ∷ []) (v ∷ []) refl $ fjoin ! $
    fpack ! (List Val) (tagged_with (form_of (shape call.the_type)) (form_of (shape call.the_type)).payload (call.the_type.to ConversationNew) (v ∷ [])) [] $ done !

pub made_ConversationSeal : {M : Type 1} {𝓤 : Ura M} (𝓛 : Logic 𝓤) → ent 𝓤 (emp 𝓤) (sem 𝓛 (call.the_row.own_val ConversationSeal (live 25 (of_list []) ∷ [])))
made_ConversationSeal 𝓛 = let v : Val = live 25 (of_list []) in
    qed 𝓛 [] ∵ nothing ! $ feq_i ! (List Val) [] [] refl $ fjoin ! $ fpack ! (Valss []) (in_a_row [] (owns [] tt) []) tt $ feq_i ! (List Val) (v ∷ []) (v ∷ []) refl $ fjoin ! $
    fpack ! (List Val) (tagged_with (form_of (shape call.the_type)) (form_of (shape call.the_type)).payload (call.the_type.to ConversationSeal) (v ∷ [])) [] $ done !

pub made_ConversationOpen : {M : Type 1} {𝓤 : Ura M} (𝓛 : Logic 𝓤) → ent 𝓤 (emp 𝓤) (sem 𝓛 (call.the_row.own_val ConversationOpen (live 26 (of_list []) ∷ [])))
made_ConversationOpen 𝓛 = let v : Val = live 26 (of_list []) in
    qed 𝓛 [] ∵ nothing ! $ feq_i ! (List Val) [] [] refl $ fjoin ! $ fpack ! (Valss []) (in_a_row [] (owns [] tt) []) tt $ feq_i ! (List Val) (v ∷ []) (v ∷ []) refl $ fjoin ! $
    fpack ! (List Val) (tagged_with (form_of (shape call.the_type)) (form_of (shape call.the_type)).payload (call.the_type.to ConversationOpen) (v ∷ [])) [] $ done !

pub made_MemberCommit : {M : Type 1} {𝓤 : Ura M} (𝓛 : Logic 𝓤) → ent 𝓤 (emp 𝓤) (sem 𝓛 (call.the_row.own_val MemberCommit (live 27 (of_list []) ∷ [])))
made_MemberCommit 𝓛 = let v : Val = live 27 (of_list []) in
    qed 𝓛 [] ∵ nothing ! $ feq_i ! (List Val) [] [] refl $ fjoin ! $ fpack ! (Valss []) (in_a_row [] (owns [] tt) []) tt $ feq_i ! (List Val) (v ∷ []) (v ∷ []) refl $ fjoin ! $
    fpack ! (List Val) (tagged_with (form_of (shape call.the_type)) (form_of (shape call.the_type)).payload (call.the_type.to MemberCommit) (v ∷ [])) [] $ done !

pub made_MemberInspect : {M : Type 1} {𝓤 : Ura M} (𝓛 : Logic 𝓤) → ent 𝓤 (emp 𝓤) (sem 𝓛 (call.the_row.own_val MemberInspect (live 28 (of_list []) ∷ [])))
made_MemberInspect 𝓛 = let v : Val = live 28 (of_list []) in
    qed 𝓛 [] ∵ nothing ! $ feq_i ! (List Val) [] [] refl $ fjoin ! $ fpack ! (Valss []) (in_a_row [] (owns [] tt) []) tt $ feq_i ! (List Val) (v ∷ []) (v ∷ []) refl $ fjoin ! $
    fpack ! (List Val) (tagged_with (form_of (shape call.the_type)) (form_of (shape call.the_type)).payload (call.the_type.to MemberInspect) (v ∷ [])) [] $ done !

pub made_MemberReference : {M : Type 1} {𝓤 : Ura M} (𝓛 : Logic 𝓤) → ent 𝓤 (emp 𝓤) (sem 𝓛 (call.the_row.own_val MemberReference (live 29 (of_list []) ∷ [])))
made_MemberReference 𝓛 = let v : Val = live 29 (of_list []) in
    qed 𝓛 [] ∵ nothing ! $ feq_i ! (List Val) [] [] refl $ fjoin ! $ fpack ! (Valss []) (in_a_row [] (owns [] tt) []) tt $ feq_i ! (List Val) (v ∷ []) (v ∷ []) refl $ fjoin ! $
    fpack ! (List Val) (tagged_with (form_of (shape call.the_type)) (form_of (shape call.the_type)).payload (call.the_type.to MemberReference) (v ∷ [])) [] $ done !

pub made_MemberExtensions : {M : Type 1} {𝓤 : Ura M} (𝓛 : Logic 𝓤) → ent 𝓤 (emp 𝓤) (sem 𝓛 (call.the_row.own_val MemberExtensions (live 30 (of_list []) ∷ [])))
made_MemberExtensions 𝓛 = let v : Val = live 30 (of_list []) in
    qed 𝓛 [] ∵ nothing ! $ feq_i ! (List Val) [] [] refl $ fjoin ! $ fpack ! (Valss []) (in_a_row [] (owns [] tt) []) tt $ feq_i ! (List Val) (v ∷ []) (v ∷ []) refl $ fjoin ! $
    fpack ! (List Val) (tagged_with (form_of (shape call.the_type)) (form_of (shape call.the_type)).payload (call.the_type.to MemberExtensions) (v ∷ [])) [] $ done !

pub made_KeyPackageIdentity : {M : Type 1} {𝓤 : Ura M} (𝓛 : Logic 𝓤) → ent 𝓤 (emp 𝓤) (sem 𝓛 (call.the_row.own_val KeyPackageIdentity (live 31 (of_list []) ∷ [])))
made_KeyPackageIdentity 𝓛 = let v : Val = live 31 (of_list []) in
    qed 𝓛 [] ∵ nothing ! $ feq_i ! (List Val) [] [] refl $ fjoin ! $ fpack ! (Valss []) (in_a_row [] (owns [] tt) []) tt $ feq_i ! (List Val) (v ∷ []) (v ∷ []) refl $ fjoin ! $
    fpack ! (List Val) (tagged_with (form_of (shape call.the_type)) (form_of (shape call.the_type)).payload (call.the_type.to KeyPackageIdentity) (v ∷ [])) [] $ done !

pub made_ConversationMemberAt : {M : Type 1} {𝓤 : Ura M} (𝓛 : Logic 𝓤) → ent 𝓤 (emp 𝓤) (sem 𝓛 (call.the_row.own_val ConversationMemberAt (live 32 (of_list []) ∷ [])))
made_ConversationMemberAt 𝓛 = let v : Val = live 32 (of_list []) in
    qed 𝓛 [] ∵ nothing ! $ feq_i ! (List Val) [] [] refl $ fjoin ! $ fpack ! (Valss []) (in_a_row [] (owns [] tt) []) tt $ feq_i ! (List Val) (v ∷ []) (v ∷ []) refl $ fjoin ! $
    fpack ! (List Val) (tagged_with (form_of (shape call.the_type)) (form_of (shape call.the_type)).payload (call.the_type.to ConversationMemberAt) (v ∷ [])) [] $ done !

pub made_MemberForgetProposal : {M : Type 1} {𝓤 : Ura M} (𝓛 : Logic 𝓤) → ent 𝓤 (emp 𝓤) (sem 𝓛 (call.the_row.own_val MemberForgetProposal (live 33 (of_list []) ∷ [])))
made_MemberForgetProposal 𝓛 = let v : Val = live 33 (of_list []) in
    qed 𝓛 [] ∵ nothing ! $ feq_i ! (List Val) [] [] refl $ fjoin ! $ fpack ! (Valss []) (in_a_row [] (owns [] tt) []) tt $ feq_i ! (List Val) (v ∷ []) (v ∷ []) refl $ fjoin ! $
    fpack ! (List Val) (tagged_with (form_of (shape call.the_type)) (form_of (shape call.the_type)).payload (call.the_type.to MemberForgetProposal) (v ∷ [])) [] $ done !

pub made_MemberPendingCommit : {M : Type 1} {𝓤 : Ura M} (𝓛 : Logic 𝓤) → ent 𝓤 (emp 𝓤) (sem 𝓛 (call.the_row.own_val MemberPendingCommit (live 34 (of_list []) ∷ [])))
made_MemberPendingCommit 𝓛 = let v : Val = live 34 (of_list []) in
    qed 𝓛 [] ∵ nothing ! $ feq_i ! (List Val) [] [] refl $ fjoin ! $ fpack ! (Valss []) (in_a_row [] (owns [] tt) []) tt $ feq_i ! (List Val) (v ∷ []) (v ∷ []) refl $ fjoin ! $
    fpack ! (List Val) (tagged_with (form_of (shape call.the_type)) (form_of (shape call.the_type)).payload (call.the_type.to MemberPendingCommit) (v ∷ [])) [] $ done !

pub made_MessagePlace : {M : Type 1} {𝓤 : Ura M} (𝓛 : Logic 𝓤) → ent 𝓤 (emp 𝓤) (sem 𝓛 (call.the_row.own_val MessagePlace (live 35 (of_list []) ∷ [])))
made_MessagePlace 𝓛 = let v : Val = live 35 (of_list []) in
    qed 𝓛 [] ∵ nothing ! $ feq_i ! (List Val) [] [] refl $ fjoin ! $ fpack ! (Valss []) (in_a_row [] (owns [] tt) []) tt $ feq_i ! (List Val) (v ∷ []) (v ∷ []) refl $ fjoin ! $
    fpack ! (List Val) (tagged_with (form_of (shape call.the_type)) (form_of (shape call.the_type)).payload (call.the_type.to MessagePlace) (v ∷ [])) [] $ done !

pub made_ConversationSave : {M : Type 1} {𝓤 : Ura M} (𝓛 : Logic 𝓤) → ent 𝓤 (emp 𝓤) (sem 𝓛 (call.the_row.own_val ConversationSave (live 36 (of_list []) ∷ [])))
made_ConversationSave 𝓛 = let v : Val = live 36 (of_list []) in
    qed 𝓛 [] ∵ nothing ! $ feq_i ! (List Val) [] [] refl $ fjoin ! $ fpack ! (Valss []) (in_a_row [] (owns [] tt) []) tt $ feq_i ! (List Val) (v ∷ []) (v ∷ []) refl $ fjoin ! $
    fpack ! (List Val) (tagged_with (form_of (shape call.the_type)) (form_of (shape call.the_type)).payload (call.the_type.to ConversationSave) (v ∷ [])) [] $ done !

pub made_ConversationRestore : {M : Type 1} {𝓤 : Ura M} (𝓛 : Logic 𝓤) → ent 𝓤 (emp 𝓤) (sem 𝓛 (call.the_row.own_val ConversationRestore (live 37 (of_list []) ∷ [])))
made_ConversationRestore 𝓛 = let v : Val = live 37 (of_list []) in
    qed 𝓛 [] ∵ nothing ! $ feq_i ! (List Val) [] [] refl $ fjoin ! $ fpack ! (Valss []) (in_a_row [] (owns [] tt) []) tt $ feq_i ! (List Val) (v ∷ []) (v ∷ []) refl $ fjoin ! $
    fpack ! (List Val) (tagged_with (form_of (shape call.the_type)) (form_of (shape call.the_type)).payload (call.the_type.to ConversationRestore) (v ∷ [])) [] $ done !

pub made_MemberMissingProposal : {M : Type 1} {𝓤 : Ura M} (𝓛 : Logic 𝓤) → ent 𝓤 (emp 𝓤) (sem 𝓛 (call.the_row.own_val MemberMissingProposal (live 38 (of_list []) ∷ [])))
made_MemberMissingProposal 𝓛 = let v : Val = live 38 (of_list []) in
    qed 𝓛 [] ∵ nothing ! $ feq_i ! (List Val) [] [] refl $ fjoin ! $ fpack ! (Valss []) (in_a_row [] (owns [] tt) []) tt $ feq_i ! (List Val) (v ∷ []) (v ∷ []) refl $ fjoin ! $
    fpack ! (List Val) (tagged_with (form_of (shape call.the_type)) (form_of (shape call.the_type)).payload (call.the_type.to MemberMissingProposal) (v ∷ [])) [] $ done !
