-- `free_handle` lets the box go, unless the pointer is null.
use Rattle.std.proofs.Common.{◌≡◌, [], ◌∷◌, refl, lit<, w32}
use base.Logic.{ent, sep, id⊢, guard_i}
use base.Fml.{ftrue}
use mir.Raw.{raw as bare}
use mir.Val.{Val, vptr, vnull}
use prog.Wp.{WpFn}
use types.Logic.{sem}
use contract.Monad.{fact, fact_use}
use contract.Running.{tables}
use types.Kit.{‵, raw, given, ◌⊛◌, at_ret, ◌$◌, ◌∵◌, !, qed, by, move, keep, drop, learn, use1, split, join, fsplit, fjoin, fpick}
use types.Run.{enter, of_opd, lit, bin, no_more, and_then, first, branches, skips, exec, returns, returns_within}
use types.ByLocal.{alloc_all, pass_all, free_all, look_at, get, sets, lands_as, env}
use types.Part.{agg}
use denote.Builtin.{u32}
use denote.Exit.{yes}
use denote.Memory.{lone}
use denote.Plain.{uint_Lawful}
use denote.RattleType.{RattleType, owns}
use denote.RawPtr.{Ptr, RawPtr, block_ptr, null_ptr, ptr_val, rawptr_vals, rawptr_Tells, Testable, InBlock, tests_null}
use denote.Signature.{plain}
use denote.Steps.{nothing, heard}
use denote.Triple.Call.{calls_at}
use denote.Triple.Entry.{on_entry}
use denote.Triple.Spec.{triple_of}
use denote.Triple.Table.{framed}
use denote.Triple.Walked.{Stays, walk_of, stay_dropped, Goes-dropped}
use Rattle.std.proofs.raw_atomic.Walks.{proved, leaves}
use Rattle.std.specs.declared.alloc.Global.{Global}
use Rattle.std.specs.contracts.alloc.Global as heap
use Rattle.std.proofs.alloc.Global.TheLaws as heap_laws
use Rattle.std.specs.contracts.impls.GlobalAllocator.TheImpl.{ghosts}
use Rattle.std.specs.declared.option.Option.TheVariants.{Some}
use Rattle.std_heap.proofs.GlobalToken.{dealloc_token-Testable}
use Rattle.mls_calls.specs.Faults.{number_of}
use Rattle.mls_calls.specs.declared.error.MisuseError.TheVariants.{NullHandle}
use Rattle.mls_c.specs.Loose.{loose_owns}
use Rattle.mls_c.specs.Memory.{held_at}
use Rattle.mls_calls.specs.contracts.held.Held as held
use Rattle.mls_c.proofs.Loosened.{both, Loose, loose_good, loose_in}
use Rattle.mls_c.proofs.Rows.{by_pointer, typed, comes, holds}
use Rattle.mls_c.specs.contracts.pointer.null_number as null_call
use Rattle.mls_c.proofs.pointer.null_number.Met as null_thm
use Rattle.mls_c.specs.contracts.pointer.free_loose as frees
use Rattle.mls_c.proofs.pointer.free_loose.Met as frees_thm
use Rattle.mls_c.specs.contracts.pointer.free_handle as f
use Rattle.mls_c.proofs.pointer.free_handle.Statement.{statement}
use Rattle.mls_c.proofs.pointer.free_handle.Code as code

abbrev stayed : Stays f.ended.signature.params f.ended.kept
stayed = (stay_dropped _ yes, (stay_dropped _ yes, tt))

abbrev R : RattleType
R = held.the_row

abbrev A : RattleType
A = heap.the_row

pub free_handle_spec : {M : Type 1} → statement M
free_handle_spec 𝓤 𝓛 𝓜 𝓡 wired =
    let H = 𝓛.H in let c = f.clauses 𝓛 𝓜.mem 𝓡.returns in let W = walk_of 𝓛 f.ended stayed c in let 𝓣 = tables 𝓤 H 𝓜 𝓡 𝓡.env in let fm = framed 𝓤 H 𝓜 𝓣 in let heap_word = heap_laws.the_told.val in
    proved 𝓛 f.ended stayed c 𝓜 𝓡 (Goes-dropped 𝓛 0 (plain (λ _. A)) yes (λ κs x w. refl), (Goes-dropped 𝓛 0 (plain (λ _. RawPtr)) yes (λ κs x w. refl), tt))
    f.Key.name code.function (code.unfolded 𝓤 H 𝓜 𝓡 wired)
    (λ κs. ((λ x. heap_word x ∷ []), (rawptr_vals, tt))) (λ κs. (heap_laws.the_told.tells, (rawptr_Tells, tt))) (λ κs qs bounds args x are.
    let a : Global = args.0 in let good = ((heap_laws.the_row_laws.lawful 𝓛).typed a (heap_word a ∷ []) are.0).0 in
    let y : Ptr → W.Ghost = λ p. ((κs, qs, bounds, (a, (p, tt)), (heap_word a ∷ [], (rawptr_vals p, tt))), x) in
    by_pointer (λ p. ent 𝓤 (sep 𝓤 (on_entry 𝓛 f.signature κs qs (a, (p, tt)) (y p).0.4) (sem 𝓛 (held_at p x))) (WpFn 𝓤 H 𝓣.C 𝓣.Λ code.function (heap_word a ∷ ptr_val p ∷ []) (W.post (y p)))) args.1.0
    (λ b o. let s : Ptr = block_ptr b o in
    qed 𝓛 ((‵ ftrue ⊛ ‵ (owns (A ∷ RawPtr ∷ []) (a, (s, tt)) (y s).0.4)) ∷ ‵ (held_at s x) ∷ []) ∵ split ! $ drop ! $ fsplit ! $ move ! (2 ∷ []) $ fpick ! (λ k. fsplit ! $ move ! (1 ∷ []) $
    -- [the token; the value; the allocator; nothing]
    use1 𝓛 (given (Testable s) (‵ (ghosts.dealloc_token k (bare (lone R.mir)) s))) (fact_use 𝓤 (Testable s) (dealloc_token-Testable 𝓛 k (bare (lone R.mir)) s) (guard_i 𝓤 (Testable s) _)) $ learn ! (λ test.
    move ! (1 ∷ 0 ∷ []) $ fjoin ! $ use1 𝓛 (‵ (loose_owns (ghosts.dealloc_token a) R s (Some x))) (id⊢ 𝓤 _) $ keep ! (0 ∷ 1 ∷ []) $
    loose_in R A heap_laws.the_row_laws ghosts ! s (heap_word a) a (Some x) $
    let loose : (Loose R A heap_laws.the_row_laws ghosts).Denot = record { at = s; alloc = a; value = Some x } in let word : Val = both (vptr b o) (heap_word a) in let fits = loose_good R A heap_laws.the_row_laws ghosts b o (heap_word a) good in
    enter ! 𝓣.C 𝓣.Λ code.function (heap_word a ∷ vptr b o ∷ []) (W.post (y s)) $ alloc_all ! (λ l. pass_all ! refl (good, ((tt, tt), tt)) $
    sets ! (bin ! (get ! refl) (lit ! tt) (tests_null s test)) refl (tt, tt) $
    first ! $ branches ! (get ! refl) (λ t. absurd t)
    (λ t. skips ! $ exec ! 𝓣.C 𝓣.Λ (env code.Mir.locals l) code.Mir.t-3 (at_ret (env code.Mir.locals l) (W.post (y s))) $
    sets ! (of_opd ! (get ! refl)) refl (tt, tt) $
    sets ! (agg ! (and_then ! (get ! refl) (and_then ! (get ! refl) (no_more !)))) refl fits $
    let Frees = triple_of 𝓛 frees.signature (frees.spec 𝓛 𝓜.mem 𝓡.returns) in let z : Frees.Ghost = ((tt, tt, tt, (loose, tt), (word ∷ [], tt)), tt) in
    nothing ! $ move ! (1 ∷ 0 ∷ []) $ fjoin ! $ nothing ! $ join ! $ holds ! (InBlock s) tt $ move ! (1 ∷ 0 ∷ []) $ join ! $ use1 𝓛 (raw (Frees.pre z)) (id⊢ 𝓤 _) $
    calls_at ! fm Frees (frees_thm.met 𝓤 𝓛 𝓜 𝓡 (code.calls-mls_c::pointer::free_loose 𝓡.env wired)) z (and_then ! (get ! refl) (no_more !)) (λ v.
    comes ! tt frees.ended (frees.clauses 𝓛 𝓜.mem 𝓡.returns) z v (λ r ws. move ! (1 ∷ []) $ use1 𝓛 (raw (fact 𝓤 (r ≡ 0))) (id⊢ 𝓤 _) $ heard ! (r ≡ 0) (λ is.
    typed u32 (uint_Lawful 𝓛 w32) ! r v (λ ok. lands_as ! refl refl ok.0 $ returns ! (look_at ! 0 refl) $ free_all ! refl $
    holds ! (r ≡ 0) is $ move ! (1 ∷ []) $ nothing ! $ nothing ! $ fjoin ! $ nothing ! $ fjoin ! $ nothing ! $ by ! (leaves 𝓛 f.ended stayed c (y s) v r (tt, (tt, tt)) (tt, (tt, tt))))))))))))
    (qed 𝓛 ((‵ ftrue ⊛ ‵ (owns (A ∷ RawPtr ∷ []) (a, (null_ptr, tt)) (y null_ptr).0.4)) ∷ ‵ (held_at null_ptr x) ∷ []) ∵ split ! $ drop ! $ drop ! $ drop ! $
    enter ! 𝓣.C 𝓣.Λ code.function (heap_word a ∷ vnull ∷ []) (W.post (y null_ptr)) $ alloc_all ! (λ l. pass_all ! refl (good, ((tt, record { fits = lit< tt }), tt)) $
    sets ! (bin ! (get ! refl) (lit ! tt) (tests_null null_ptr (lit< tt))) refl (tt, tt) $
    let Nulls = triple_of 𝓛 null_call.signature (null_call.spec 𝓛 𝓜.mem 𝓡.returns) in let z : Nulls.Ghost = ((tt, tt, tt, tt, tt), tt) in
    first ! $ branches ! (get ! refl)
    (λ t. nothing ! $ nothing ! $ join ! $ nothing ! $ move ! (1 ∷ 0 ∷ []) $ join ! $ use1 𝓛 (raw (Nulls.pre z)) (id⊢ 𝓤 _) $
    calls_at ! fm Nulls (null_thm.met 𝓤 𝓛 𝓜 𝓡 (code.calls-mls_c::pointer::null_number 𝓡.env wired)) z (no_more !) (λ v.
    comes ! tt null_call.ended (null_call.clauses 𝓛 𝓜.mem 𝓡.returns) z v (λ r ws. move ! (1 ∷ []) $ use1 𝓛 (raw (fact 𝓤 (r ≡ number_of NullHandle))) (id⊢ 𝓤 _) $ heard ! (r ≡ number_of NullHandle) (λ is.
    typed u32 (uint_Lawful 𝓛 w32) ! r v (λ ok. lands_as ! refl refl ok.0 $ returns_within ! (W.post (y null_ptr)) refl (look_at ! 0 refl) $ free_all ! refl $
    holds ! (r ≡ number_of NullHandle) is $ move ! (1 ∷ []) $ nothing ! $ nothing ! $ fjoin ! $ nothing ! $ fjoin ! $ nothing ! $ by ! (leaves 𝓛 f.ended stayed c (y null_ptr) v r (tt, (tt, tt)) (tt, (tt, tt))))))))
    (λ t. absurd t))))
