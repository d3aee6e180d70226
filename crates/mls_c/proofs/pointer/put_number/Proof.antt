-- `put_number` writes the number, unless the pointer is null.
use Rattle.std.proofs.Common.{List, [], ◌∷◌, refl, lit<, w64}
use base.Fraction.{full_share}
use base.Logic.{ent, sep}
use mir.Val.{Val, vunit, vint, vptr, vnull}
use prog.Wp.{WpFn}
use types.Logic.{sem}
use types.Kit.{‵, raw, at_ret, ◌$◌, ◌∵◌, !, qed, by, drop, use1, fsplit, fjoin, fpick, feq_i}
use types.Run.{enter, of_opd, lit, unit_lit, bin, init, stop, assigns, first, branches, skips, exec, returns, returns_within}
use types.ByLocal.{alloc_all, pass_all, free_all, look_at, get, through, sets, env}
use contract.Running.{tables}
use denote.Builtin.{u64}
use denote.Exit.{yes}
use denote.Plain.{uint_in, uint_vals, uint_Tells}
use denote.RawPtr.{Ptr, RawPtr, block_ptr, null_ptr, ptr_val, lies_at, rawptr_vals, rawptr_Tells, tests_null}
use denote.Signature.{plain}
use denote.Steps.{nothing}
use denote.Triple.Entry.{on_entry}
use denote.Triple.Walked.{Stays, walk_of, stay_dropped, Goes-dropped}
use Rattle.std.proofs.raw_atomic.Walks.{proved, leaves}
use Rattle.mls_c.specs.Memory.{room_if}
use Rattle.mls_c.proofs.Rows.{by_pointer}
use Rattle.mls_c.specs.contracts.pointer.put_number as f
use Rattle.mls_c.proofs.pointer.put_number.Statement.{statement}
use Rattle.mls_c.proofs.pointer.put_number.Code as code

abbrev stayed : Stays f.ended.signature.params f.ended.kept
stayed = (stay_dropped _ yes, (stay_dropped _ yes, tt))

pub put_number_spec : {M : Type 1} → statement M
put_number_spec 𝓤 𝓛 𝓜 𝓡 wired =
    let H = 𝓛.H in let c = f.clauses 𝓛 𝓜.mem 𝓡.returns in let W = walk_of 𝓛 f.ended stayed c in let 𝓣 = tables 𝓤 H 𝓜 𝓡 𝓡.env in
    proved 𝓛 f.ended stayed c 𝓜 𝓡 (Goes-dropped 𝓛 0 (plain (λ _. RawPtr)) yes (λ κs x w. refl), (Goes-dropped 𝓛 0 (plain (λ _. u64)) yes (λ κs x w. refl), tt))
    f.Key.name code.function (code.unfolded 𝓤 H 𝓜 𝓡 wired)
    (λ κs. (rawptr_vals, (uint_vals w64, tt))) (λ κs. (rawptr_Tells, (uint_Tells w64, tt))) (λ κs qs bounds a g are.
    let n = a.1.0 in let fits = are.1.0.1 in
    let y : Ptr → W.Ghost = λ p. ((κs, qs, bounds, (p, (n, tt)), (rawptr_vals p, (uint_vals w64 n, tt))), g) in
    by_pointer (λ p. ent 𝓤 (sep 𝓤 (on_entry 𝓛 f.signature κs qs (p, (n, tt)) (y p).0.4) (sem 𝓛 (room_if u64 p))) (WpFn 𝓤 H 𝓣.C 𝓣.Λ code.function (ptr_val p ∷ vint w64 n ∷ []) (W.post (y p)))) a.0
    (λ b o. qed 𝓛 (raw (on_entry 𝓛 f.signature κs qs (block_ptr b o, (n, tt)) (y (block_ptr b o)).0.4) ∷ ‵ (room_if u64 (block_ptr b o)) ∷ []) ∵ drop ! $ fsplit ! $ fpick ! (λ test. drop ! $
    enter ! 𝓣.C 𝓣.Λ code.function (vptr b o ∷ vint w64 n ∷ []) (W.post (y (block_ptr b o))) $
    alloc_all ! (λ l. pass_all ! refl ((tt, tt), ((tt, record { fits = fits }), tt)) $
    sets ! (bin ! (get ! refl) (lit ! tt) (tests_null (block_ptr b o) test)) refl (tt, tt) $
    first ! $ branches ! (get ! refl) (λ t. absurd t)
    (λ t. skips ! $ exec ! 𝓣.C 𝓣.Λ (env code.Mir.locals l) code.Mir.t-3 (at_ret (env code.Mir.locals l) (W.post (y (block_ptr b o)))) $
    assigns ! (of_opd ! (get ! refl)) (through ! refl (stop !)) (init ! 0 refl (tt, record { fits = fits })) $
    sets ! (of_opd ! (unit_lit !)) refl (tt, tt) $
    returns ! (look_at ! 0 refl) $ free_all ! refl $
    use1 𝓛 (‵ (lies_at u64 full_share (block_ptr b o) n)) (uint_in 𝓛 full_share w64 n b o) $
    feq_i ! (List Val) (vunit ∷ []) (vunit ∷ []) refl $ nothing ! $ nothing ! $ fjoin ! $ nothing ! $ fjoin ! $ nothing ! $ by ! (leaves 𝓛 f.ended stayed c (y (block_ptr b o)) vunit tt (tt, (tt, tt)) (tt, (tt, tt)))))))
    (qed 𝓛 (raw (on_entry 𝓛 f.signature κs qs (null_ptr, (n, tt)) (y null_ptr).0.4) ∷ ‵ (room_if u64 null_ptr) ∷ []) ∵ drop ! $
    enter ! 𝓣.C 𝓣.Λ code.function (vnull ∷ vint w64 n ∷ []) (W.post (y null_ptr)) $
    alloc_all ! (λ l. pass_all ! refl ((tt, record { fits = lit< tt }), ((tt, record { fits = fits }), tt)) $
    sets ! (bin ! (get ! refl) (lit ! tt) (tests_null null_ptr (lit< tt))) refl (tt, tt) $
    first ! $ branches ! (get ! refl)
    (λ t. sets ! (of_opd ! (unit_lit !)) refl (tt, tt) $
    returns_within ! (W.post (y null_ptr)) refl (look_at ! 0 refl) $ free_all ! refl $
    feq_i ! (List Val) (vunit ∷ []) (vunit ∷ []) refl $ nothing ! $ nothing ! $ fjoin ! $ nothing ! $ fjoin ! $ nothing ! $ by ! (leaves 𝓛 f.ended stayed c (y null_ptr) vunit tt (tt, (tt, tt)) (tt, (tt, tt))))
    (λ t. absurd t))))
