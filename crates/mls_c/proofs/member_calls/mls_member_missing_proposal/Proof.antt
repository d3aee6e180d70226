-- `mls_member_missing_proposal` passes on to `run`.
use Rattle.std.proofs.Common.{[], ◌∷◌, refl, lit<, w32, w64}
use base.Logic.{id⊢}
use base.Fml.{ftrue}
use mir.Val.{vint, of_list}
use contract.Running.{tables}
use types.Kit.{‵, raw, ◌⊛◌, ◌$◌, ◌∵◌, !, qed, by, move, drop, use0, use1, split, join, fsplit, fjoin}
use types.Match.{live}
use types.Part.{agg}
use types.Run.{enter, lit, no_more, and_then, returns}
use types.ByLocal.{alloc_all, pass_all, free_all, look_at, get, sets, lands_as}
use denote.Builtin.{u32, u64, usize}
use denote.Exit.{yes}
use denote.Laws.{Is}
use denote.Plain.{uint_vals, uint_Tells, uint_Makes, uint_Lawful}
use denote.RattleType.{RattleType, owns}
use denote.RawPtr.{Ptr, RawPtr, null_ptr, ptr_val, rawptr_vals, rawptr_Tells, rawptr_Lawful, rawptr_Makes}
use denote.Signature.{plain}
use denote.Steps.{nothing, owned}
use denote.Triple.Call.{calls_at}
use denote.Triple.Entry.{Vals}
use denote.Triple.Spec.{triple_of}
use denote.Triple.Table.{framed}
use denote.Triple.Walked.{Stays, walk_of, stay_dropped, Goes-dropped}
use Rattle.std.proofs.raw_atomic.Walks.{proved, leaves}
use Rattle.std.specs.contracts.alloc.Global as heap
use Rattle.std.proofs.alloc.Global.TheLaws as heap_laws
use Rattle.mls_c.specs.Memory.{asked_at, Passed}
use Rattle.mls_calls.specs.declared.call.Call.TheVariants.{MemberMissingProposal}
use Rattle.mls_calls.specs.contracts.call.Call as call
use Rattle.mls_c.proofs.Named.{made_MemberMissingProposal}
use Rattle.mls_c.proofs.Rows.{typed, comes}
use Rattle.mls_c.specs.contracts.run.run as runs
use Rattle.mls_c.proofs.run.run.Met as runs_thm
use Rattle.mls_c.specs.contracts.member_calls.mls_member_missing_proposal as f
use Rattle.mls_c.proofs.member_calls.mls_member_missing_proposal.Statement.{statement}
use Rattle.mls_c.proofs.member_calls.mls_member_missing_proposal.Code as code

abbrev A : RattleType
A = heap.the_row

abbrev stayed : Stays f.ended.signature.params f.ended.kept
stayed = (stay_dropped _ yes, (stay_dropped _ yes, (stay_dropped _ yes, (stay_dropped _ yes, (stay_dropped _ yes, (stay_dropped _ yes, tt))))))

pub mls_member_missing_proposal_spec : {M : Type 1} → statement M
mls_member_missing_proposal_spec 𝓤 𝓛 𝓜 𝓡 wired =
    let H = 𝓛.H in let c = f.clauses 𝓛 𝓜.mem 𝓡.returns in let W = walk_of 𝓛 f.ended stayed c in let 𝓣 = tables 𝓤 H 𝓜 𝓡 𝓡.env in let heap_word = heap_laws.the_told.val in
    proved 𝓛 f.ended stayed c 𝓜 𝓡 (Goes-dropped 𝓛 0 (plain (λ _. A)) yes (λ κs x w. refl), (Goes-dropped 𝓛 0 (plain (λ _. RawPtr)) yes (λ κs x w. refl), (Goes-dropped 𝓛 0 (plain (λ _. RawPtr)) yes (λ κs x w. refl), (Goes-dropped 𝓛 0 (plain (λ _. usize)) yes (λ κs x w. refl), (Goes-dropped 𝓛 0 (plain (λ _. u64)) yes (λ κs x w. refl), (Goes-dropped 𝓛 0 (plain (λ _. RawPtr)) yes (λ κs x w. refl), tt))))))
    f.Key.name code.function (code.unfolded 𝓤 H 𝓜 𝓡 wired)
    (λ κs. ((λ x. heap_word x ∷ []), (rawptr_vals, (rawptr_vals, (uint_vals w64, (uint_vals w64, (rawptr_vals, tt))))))) (λ κs. (heap_laws.the_told.tells, (rawptr_Tells, (rawptr_Tells, (uint_Tells w64, (uint_Tells w64, (rawptr_Tells, tt))))))) (λ κs qs bounds args asked are.
    let a = args.0 in let x0 = args.1.0 in let x1 = args.1.1.0 in let x2 = args.1.1.1.0 in let x3 = args.1.1.1.1.0 in let x4 = args.1.1.1.1.1.0 in let ptr_ok = λ (s : Ptr). ((rawptr_Lawful 𝓛).typed s (ptr_val s ∷ []) refl).0 in
    let heap_ok = ((heap_laws.the_row_laws.lawful 𝓛).typed a (heap_word a ∷ []) are.0).0 in
    let to : Passed = record { handle = x0; first = x1; first_length = x2; second = null_ptr; second_length = 0; third = null_ptr; third_length = 0; made = x4; other = null_ptr; value = null_ptr } in
    let vals : Vals f.signature κs = (heap_word a ∷ [], (ptr_val x0 ∷ [], (ptr_val x1 ∷ [], (vint w64 x2 ∷ [], (vint w64 x3 ∷ [], (ptr_val x4 ∷ [], tt)))))) in let y : W.Ghost = ((κs, qs, bounds, args, vals), asked) in
    let Runs = triple_of 𝓛 runs.signature (runs.spec 𝓛 𝓜.mem 𝓡.returns) in
    let z : Runs.Ghost = ((tt, tt, tt, (a, (MemberMissingProposal, (x3, (x0, (x1, (x2, (null_ptr, (0, (null_ptr, (0, (x4, (null_ptr, (null_ptr, tt))))))))))))), (heap_word a ∷ [], (live 38 (of_list []) ∷ [], (vint w64 x3 ∷ [], (ptr_val x0 ∷ [], (ptr_val x1 ∷ [], (vint w64 x2 ∷ [], (ptr_val null_ptr ∷ [], (vint w64 0 ∷ [], (ptr_val null_ptr ∷ [], (vint w64 0 ∷ [], (ptr_val x4 ∷ [], (ptr_val null_ptr ∷ [], (ptr_val null_ptr ∷ [], tt)))))))))))))), asked) in
    qed 𝓛 ((‵ ftrue ⊛ ‵ (owns (A ∷ RawPtr ∷ RawPtr ∷ usize ∷ u64 ∷ RawPtr ∷ []) args vals)) ∷ ‵ (asked_at to asked) ∷ []) ∵ split ! $ drop ! $ fsplit ! $ move ! (1 ∷ []) $ drop ! $
    enter ! 𝓣.C 𝓣.Λ code.function (heap_word a ∷ ptr_val x0 ∷ ptr_val x1 ∷ vint w64 x2 ∷ vint w64 x3 ∷ ptr_val x4 ∷ []) (W.post y) $ alloc_all ! (λ l. pass_all ! refl (heap_ok, (ptr_ok x0, (ptr_ok x1, ((tt, record { fits = are.1.1.1.0.1 }), ((tt, record { fits = are.1.1.1.1.0.1 }), (ptr_ok x4, tt)))))) $
    sets ! (agg ! (and_then ! (lit ! tt) (no_more !))) refl (tt, (record { fits = lit< tt }, tt)) $
    owned ! RawPtr (Is RawPtr) (rawptr_Makes 𝓛) null_ptr (ptr_val null_ptr ∷ []) refl $ nothing ! $ move ! (1 ∷ 0 ∷ []) $ fjoin ! $
    owned ! RawPtr (Is RawPtr) (rawptr_Makes 𝓛) null_ptr (ptr_val null_ptr ∷ []) refl $ fjoin ! $
    owned ! RawPtr (Is RawPtr) (rawptr_Makes 𝓛) x4 (ptr_val x4 ∷ []) refl $ fjoin ! $
    owned ! usize (Is usize) (uint_Makes 𝓛 w64) 0 (vint w64 0 ∷ []) (refl, lit< tt) $ fjoin ! $
    owned ! RawPtr (Is RawPtr) (rawptr_Makes 𝓛) null_ptr (ptr_val null_ptr ∷ []) refl $ fjoin ! $
    owned ! usize (Is usize) (uint_Makes 𝓛 w64) 0 (vint w64 0 ∷ []) (refl, lit< tt) $ fjoin ! $
    owned ! RawPtr (Is RawPtr) (rawptr_Makes 𝓛) null_ptr (ptr_val null_ptr ∷ []) refl $ fjoin ! $
    owned ! usize (Is usize) (uint_Makes 𝓛 w64) x2 (vint w64 x2 ∷ []) (refl, are.1.1.1.0.1) $ fjoin ! $
    owned ! RawPtr (Is RawPtr) (rawptr_Makes 𝓛) x1 (ptr_val x1 ∷ []) refl $ fjoin ! $
    owned ! RawPtr (Is RawPtr) (rawptr_Makes 𝓛) x0 (ptr_val x0 ∷ []) refl $ fjoin ! $
    owned ! u64 (Is u64) (uint_Makes 𝓛 w64) x3 (vint w64 x3 ∷ []) (refl, are.1.1.1.1.0.1) $ fjoin ! $
    use0 𝓛 (‵ (call.the_row.own_val MemberMissingProposal (live 38 (of_list []) ∷ []))) (made_MemberMissingProposal 𝓛) $ fjoin ! $ move ! (1 ∷ 0 ∷ []) $ fjoin ! $ nothing ! $ join ! $ join ! $ use1 𝓛 (raw (Runs.pre z)) (id⊢ 𝓤 _) $
    calls_at ! (framed 𝓤 H 𝓜 𝓣) Runs (runs_thm.met 𝓤 𝓛 𝓜 𝓡 (code.calls-mls_c::run::run 𝓡.env wired)) z (and_then ! (get ! refl) (and_then ! (get ! refl) (and_then ! (get ! refl) (and_then ! (get ! refl) (and_then ! (get ! refl) (and_then ! (get ! refl) (and_then ! (lit ! tt) (and_then ! (lit ! tt) (and_then ! (lit ! tt) (and_then ! (lit ! tt) (and_then ! (get ! refl) (and_then ! (lit ! tt) (and_then ! (lit ! tt) (no_more !)))))))))))))) (λ v.
    comes ! tt runs.ended (runs.clauses 𝓛 𝓜.mem 𝓡.returns) z v (λ r ws. typed u32 (uint_Lawful 𝓛 w32) ! r v (λ ok. lands_as ! refl refl ok.0 $
    returns ! (look_at ! 0 refl) $ free_all ! refl $ nothing ! $ nothing ! $ fjoin ! $ nothing ! $ fjoin ! $ nothing ! $ fjoin ! $ nothing ! $ fjoin ! $ nothing ! $ fjoin ! $ nothing ! $ fjoin ! $ nothing ! $ by ! (leaves 𝓛 f.ended stayed c y v r (tt, (tt, (tt, (tt, (tt, (tt, tt)))))) (tt, (tt, (tt, (tt, (tt, (tt, tt))))))))))))
