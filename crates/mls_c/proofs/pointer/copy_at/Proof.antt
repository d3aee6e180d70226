-- `copy_at` lends the bytes for a lifetime that is made for the call of `given_of`, unless the pointer is null.
use Rattle.std.proofs.Common.{ℕ, ◌*◌, ◌^◌, ◌<◌, List, [], ◌∷◌, length, refl, subst, arith, lit<, w8, w64, Bor}
use seplogic.Ra.Ura.{Ura}
use base.Fraction.{full_share}
use mir.Syntax.{named}
use mir.Val.{Val, vint, vptr, vnull}
use base.Logic.{SProp, ent, sep, snd∗, ex_e, id⊢}
use base.Fml.{Lft, Share, Fml, ftrue, feq, fsep, flft, flent, Incl-refl}
use prog.Memory.{Memory}
use prog.Routine.{Routine}
use prog.Wp.{Calls, Loops, WpFn}
use types.Logic.{Logic, sem}
use contract.Monad.{Fun, fact}
use contract.Running.{tables}
use types.Kit.{‵, raw, ◌⊛◌, some, later, at_ret, ◌$◌, ◌∵◌, !, qed, by, move, keep, drop, use1, use2, split, join, pick, fsplit, fjoin, fpick, fpack, feq_l, feq_i, await}
use types.Tokens.{lft_new, lft_end, lent_back}
use types.Run.{and_then, no_more, lit, bin, first, branches, skips, exec, returns, returns_within, enter}
use types.Part.{agg}
use types.ByLocal.{alloc_all, pass_all, free_all, look_at, get, sets, lands_as, env}
use sound.WpLaws.{FmC}
use denote.Exit.{yes}
use denote.RattleType.{RattleType, owns}
use denote.Laws.{Is}
use denote.Memory.{part_at}
use denote.Plain.{uint_vals, uint_Tells, uint_Makes}
use denote.Builtin.{u8, usize}
use denote.Array.{Array}
use denote.Param.{layout}
use denote.Slice.{ShrSlice, slice_val}
use denote.Lend.{lends_shr_slice}
use denote.Copied.{uint_Copied}
use denote.RawPtr.{Ptr, block_ptr, null_ptr, ptr_val, RawPtr, rawptr_vals, rawptr_Tells, Testable, tests_null}
use denote.RawPtr.Bytes.{bytes, bytes_apart, bytes_whole}
use denote.Signature.{plain}
use denote.Steps.{owned, heard, nothing}
use denote.Triple.Statement.{Contract, Triple}
use denote.Triple.Call.{calls_at}
use denote.Triple.Clauses.{ensured, lasts}
use denote.Triple.Spec.{triple_of}
use denote.Triple.Table.{framed}
use denote.Triple.Walked.{Stays, stay_dropped, walk_of, Goes-dropped}
use Rattle.std.proofs.cell.Inside.{Good}
use Rattle.std.proofs.raw_atomic.Walks.{proved, leaves}
use Rattle.std.specs.declared.alloc.Global.{Global}
use Rattle.std.specs.contracts.alloc.Global as heap
use Rattle.std.proofs.alloc.Global.TheLaws as heap_laws
use Rattle.mls_c.specs.Memory.{bytes_at}
use Rattle.mls_calls.specs.Given.{IsCopy, IsNone}
use Rattle.mls_calls.specs.contracts.given.Given as given
use Rattle.mls_calls.proofs.given.Given.TheLaws as given_laws
use Rattle.mls_c.proofs.Rows.{typed, comes, holds}
use Rattle.mls_calls.specs.contracts.given_of as of
use Rattle.mls_calls.proofs.given_of.Symbol.{name as #given-of}
use Rattle.mls_calls.proofs.given_of.Met as of_thm
use Rattle.mls_calls.specs.contracts.none_given as no
use Rattle.mls_calls.proofs.none_given.Symbol.{name as #none-given}
use Rattle.mls_calls.proofs.none_given.Met as no_thm
use Rattle.mls_c.specs.contracts.pointer.copy_at as f
use Rattle.mls_c.proofs.pointer.copy_at.Statement.{statement}
use Rattle.mls_c.proofs.pointer.copy_at.Code as code

abbrev stayed : Stays f.ended.signature.params f.ended.kept
stayed = (stay_dropped _ yes, (stay_dropped _ yes, (stay_dropped _ yes, tt)))

abbrev G : RattleType
G = given.the_row

module _ {M : Type 1} {𝓤 : Ura M} (𝓛 : Logic 𝓤) (at_mem : Memory → SProp 𝓤) (run : Routine → Fun 𝓤) where
  abbrev Of : Contract 𝓤
  Of = triple_of 𝓛 of.signature (of.spec 𝓛 at_mem run)

  abbrev No : Contract 𝓤
  No = triple_of 𝓛 no.signature (no.spec 𝓛 at_mem run)

module _ {M : Type 1} {𝓤 : Ura M} (𝓛 : Logic 𝓤) (at_mem : Memory → SProp 𝓤) (run : Routine → Fun 𝓤) (C : Calls 𝓤 𝓛.H) (Λ : Loops 𝓤 𝓛.H) (fm : FmC 𝓤 𝓛.H 𝓛.laws C)
    (known : Triple 𝓤 (C #given-of) (Of 𝓛 at_mem run)) (known_no : Triple 𝓤 (C #none-given) (No 𝓛 at_mem run)) (a : Global) (hv : Val) (good : Good (layout heap.the_row) hv) (q : Share) (xs : List ℕ) where
  abbrev passed : Ptr → ℕ → List Val × (List Val × (List Val × Unit {0}))
  passed p n = (hv ∷ [], (rawptr_vals p, (vint w64 n ∷ [], tt)))

  abbrev Had : Ptr → ℕ → Fml
  Had p n = owns (heap.the_row ∷ RawPtr ∷ usize ∷ []) (a, (p, (n, tt))) (passed p n)

  abbrev bound : Ptr → ℕ → (walk_of 𝓛 f.ended stayed (f.clauses 𝓛 at_mem run)).Ghost
  bound p n = ((tt, tt, tt, (a, (p, (n, tt))), passed p n), (q, xs))

  abbrev Post : Ptr → ℕ → Val → SProp 𝓤
  Post p n = (walk_of 𝓛 f.ended stayed (f.clauses 𝓛 at_mem run)).post (bound p n)

  abbrev Runs : Ptr → ℕ → SProp 𝓤
  Runs p n = WpFn 𝓤 𝓛.H C Λ code.function (hv ∷ ptr_val p ∷ vint w64 n ∷ []) (Post p n)

  module _ (b o : ℕ) where
    abbrev n : ℕ
    n = length xs

    abbrev s : Ptr
    s = block_ptr b o

    abbrev Counted : Fml
    Counted = fsep (feq ℕ n n) (bytes q xs b o)

    walk : n < 2 ^ 63 → Testable s → ent 𝓤 (sep 𝓤 (sem 𝓛 Counted) (sep 𝓤 (sem 𝓛 ftrue) (sem 𝓛 (Had s n)))) (Runs s n)
    walk low test =
        let fits : n < 2 ^ 64 = omega arith in
        let room : n * 1 < 2 ^ 63 = omega arith in
        qed 𝓛 (‵ Counted ∷ ‵ ftrue ∷ ‵ (Had s n) ∷ []) ∵ move ! (2 ∷ []) $ fsplit ! $ keep ! (2 ∷ 0 ∷ []) $
        -- [the bytes; the allocator]
        enter ! C Λ code.function (hv ∷ vptr b o ∷ vint w64 n ∷ []) (Post s n) $
        alloc_all ! (λ l. pass_all ! refl (good, ((tt, tt), ((tt, record { fits = fits }), tt))) $
        sets ! (bin ! (get ! refl) (lit ! tt) (tests_null s test)) refl (tt, tt) $
        first ! $ branches ! (get ! refl) (λ t. absurd t)
        (λ t. skips ! $ exec ! C Λ (env code.Mir.locals l) code.Mir.t-3 (at_ret (env code.Mir.locals l) (Post s n)) $
        sets ! (agg ! (and_then ! (get ! refl) (and_then ! (get ! refl) (no_more !)))) refl (tt, (tt, (record { fits = fits }, tt))) $
        lft_new ! tt (λ α. let κ : Lft = α ∷ [] in move ! (1 ∷ 0 ∷ []) $
        use2 𝓛 (later ((‵ ((ShrSlice (named 0) κ u8).own_val (record { ref_ptr = (b, o); now = xs }) (slice_val (b, o) n ∷ [])) ⊛ ‵ (flent κ Counted)) ⊛ ‵ (flft κ full_share)))
        (lends_shr_slice 𝓛 u8 (named 0) κ q xs b o (fits, room) κ ((uint_Copied 𝓛 w8).shares q κ) ((κ, full_share) ∷ []) (Incl-refl κ) (Incl-refl κ)) $ await ! tt $ split ! $ split ! $
        -- [the slice; the right to the bytes; the token; the allocator; the locals]
        let lent : Bor (List ℕ) = record { ref_ptr = (b, o); now = xs } in
        let y : (Of 𝓛 at_mem run).Ghost = (((κ, tt), (full_share, tt), tt, (a, (lent, tt)), (hv ∷ [], (slice_val (b, o) n ∷ [], tt))), tt) in
        nothing ! $ move ! (1 ∷ 0 ∷ []) $ fjoin ! $ move ! (3 ∷ 0 ∷ []) $ fjoin ! $
        nothing ! $ move ! (3 ∷ 0 ∷ []) $ join ! $ join ! $ nothing ! $ move ! (1 ∷ 0 ∷ []) $ join ! $ use1 𝓛 (raw ((Of 𝓛 at_mem run).pre y)) (id⊢ 𝓤 ((Of 𝓛 at_mem run).pre y)) $
        calls_at ! fm (Of 𝓛 at_mem run) known y (and_then ! (get ! refl) (and_then ! (get ! refl) (no_more !))) (λ v.
        use1 𝓛 (later (some (λ (r : G.Denot). ((‵ (flft κ full_share) ⊛ ‵ ftrue) ⊛ ‵ (G.own_val r (v ∷ []))) ⊛ raw (ensured 𝓛 of.ended (of.clauses 𝓛 at_mem run) (κ, tt) (a, (lent, tt)) tt r)))) (id⊢ 𝓤 _) $ await ! tt $ pick ! (λ r.
        split ! $ move ! (1 ∷ []) $ use1 𝓛 (raw (fact 𝓤 (IsCopy xs r.bytes))) (ex_e 𝓤 _ (λ ws. snd∗ 𝓤 (sem 𝓛 (lasts of.ended (κ, tt) (a, (lent, tt)) ws)) (fact 𝓤 (IsCopy xs r.bytes)))) $
        heard ! (IsCopy xs r.bytes) (λ is. split ! $ split ! $ lft_end ! tt $ move ! (1 ∷ []) $ drop ! $ move ! (0 ∷ 2 ∷ []) $ lent_back ! tt $ move ! (1 ∷ []) $
        typed G (given_laws.the_row_laws.lawful 𝓛) ! r v (λ ok. lands_as ! refl refl ok.0 $
        returns ! (look_at ! 0 refl) $ free_all ! refl $
        -- [the copy; the bytes]
        move ! (1 ∷ []) $ use1 𝓛 (‵ (part_at (Array u8 n) q xs b o)) (bytes_whole 𝓛 q n xs b o) $
        nothing ! $ fpack ! (Testable s × (n < 2 ^ 63)) (λ _. ftrue) (test, low) $ fjoin ! $ holds ! (IsCopy xs r.bytes) is $
        nothing ! $ nothing ! $ fjoin ! $ nothing ! $ fjoin ! $ nothing ! $ fjoin ! $ nothing ! $ keep ! (0 ∷ 1 ∷ 4 ∷ 2 ∷ 3 ∷ []) $
        by ! (leaves 𝓛 f.ended stayed (f.clauses 𝓛 at_mem run) (bound s n) v r (tt, (tt, (tt, tt))) (tt, (tt, (tt, tt)))))))))))

  at_null : (n : ℕ) → n < 2 ^ 64 → ent 𝓤 (sep 𝓤 (sep 𝓤 (sem 𝓛 ftrue) (sem 𝓛 (Had null_ptr n))) (sem 𝓛 (bytes_at q null_ptr n xs))) (Runs null_ptr n)
  at_null n fits =
      qed 𝓛 ((‵ ftrue ⊛ ‵ (Had null_ptr n)) ∷ ‵ (bytes_at q null_ptr n xs) ∷ []) ∵ split ! $ drop ! $ fsplit ! $ keep ! (0 ∷ 2 ∷ []) $
      -- [the allocator; no bytes]
      enter ! C Λ code.function (hv ∷ vnull ∷ vint w64 n ∷ []) (Post null_ptr n) $
      alloc_all ! (λ l. pass_all ! refl (good, ((tt, record { fits = lit< tt }), ((tt, record { fits = fits }), tt))) $
      sets ! (bin ! (get ! refl) (lit ! tt) (tests_null null_ptr (lit< tt))) refl (tt, tt) $
      let y : (No 𝓛 at_mem run).Ghost = ((tt, tt, tt, (a, (n, tt)), (hv ∷ [], (vint w64 n ∷ [], tt))), tt) in
      first ! $ branches ! (get ! refl)
      (λ t. owned ! usize (Is usize) (uint_Makes 𝓛 w64) n (vint w64 n ∷ []) (refl, fits) $
      nothing ! $ move ! (1 ∷ 0 ∷ []) $ fjoin ! $ move ! (1 ∷ 0 ∷ []) $ fjoin ! $
      nothing ! $ join ! $ nothing ! $ move ! (1 ∷ 0 ∷ []) $ join ! $ use1 𝓛 (raw ((No 𝓛 at_mem run).pre y)) (id⊢ 𝓤 ((No 𝓛 at_mem run).pre y)) $
      calls_at ! fm (No 𝓛 at_mem run) known_no y (and_then ! (get ! refl) (and_then ! (get ! refl) (no_more !))) (λ v.
      comes ! tt no.ended (no.clauses 𝓛 at_mem run) y v (λ r ws. move ! (1 ∷ []) $ use1 𝓛 (raw (fact 𝓤 (IsNone n r.bytes))) (id⊢ 𝓤 _) $ heard ! (IsNone n r.bytes) (λ is.
      typed G (given_laws.the_row_laws.lawful 𝓛) ! r v (λ ok. lands_as ! refl refl ok.0 $
      returns_within ! (Post null_ptr n) refl (look_at ! 0 refl) $ free_all ! refl $
      -- [the copy; no bytes]
      move ! (1 ∷ []) $ holds ! (IsNone n r.bytes) is $
      nothing ! $ nothing ! $ fjoin ! $ nothing ! $ fjoin ! $ nothing ! $ fjoin ! $ nothing ! $ keep ! (0 ∷ 1 ∷ 4 ∷ 2 ∷ 3 ∷ []) $
      by ! (leaves 𝓛 f.ended stayed (f.clauses 𝓛 at_mem run) (bound null_ptr n) v r (tt, (tt, (tt, tt))) (tt, (tt, (tt, tt)))))))))
      (λ t. absurd t))

  at_each : (p : Ptr) (n : ℕ) → n < 2 ^ 64 → ent 𝓤 (sep 𝓤 (sep 𝓤 (sem 𝓛 ftrue) (sem 𝓛 (Had p n))) (sem 𝓛 (bytes_at q p n xs))) (Runs p n)
  at_each (block_ptr b o) n fits =
      qed 𝓛 ((‵ ftrue ⊛ ‵ (Had (block_ptr b o) n)) ∷ ‵ (bytes_at q (block_ptr b o) n xs) ∷ []) ∵ split ! $ move ! (2 ∷ []) $ fsplit ! $ fpick ! (λ ok. drop ! $
      use1 𝓛 (‵ (fsep (feq ℕ (length xs) n) (bytes q xs b o))) (bytes_apart 𝓛 q n xs b o) $ fsplit ! $ feq_l ! (λ e. feq_i ! ℕ (length xs) (length xs) refl $ fjoin ! $
      by ! (subst (λ (m : ℕ). m < 2 ^ 63 → ent 𝓤 (sep 𝓤 (sem 𝓛 (Counted b o)) (sep 𝓤 (sem 𝓛 ftrue) (sem 𝓛 (Had (block_ptr b o) m)))) (Runs (block_ptr b o) m)) e (λ low. walk b o low ok.0) ok.1)))
  at_each null_ptr n fits = at_null n fits

pub copy_at_spec : {M : Type 1} → statement M
copy_at_spec 𝓤 𝓛 𝓜 𝓡 wired =
    let H = 𝓛.H in let c = f.clauses 𝓛 𝓜.mem 𝓡.returns in let 𝓣 = tables 𝓤 H 𝓜 𝓡 𝓡.env in
    proved 𝓛 f.ended stayed c 𝓜 𝓡 (Goes-dropped 𝓛 0 (plain (λ _. heap.the_row)) yes (λ κs x w. refl), (Goes-dropped 𝓛 0 (plain (λ _. RawPtr)) yes (λ κs x w. refl), (Goes-dropped 𝓛 0 (plain (λ _. usize)) yes (λ κs x w. refl), tt)))
    f.Key.name code.function (code.unfolded 𝓤 H 𝓜 𝓡 wired)
    (λ κs. ((λ x. heap_laws.the_told.val x ∷ []), (rawptr_vals, (uint_vals w64, tt)))) (λ κs. (heap_laws.the_told.tells, (rawptr_Tells, (uint_Tells w64, tt)))) (λ κs qs bounds a g are.
    at_each 𝓛 𝓜.mem 𝓡.returns 𝓣.C 𝓣.Λ (framed 𝓤 H 𝓜 𝓣) (of_thm.met 𝓤 𝓛 𝓜 𝓡 (code.calls-mls_calls::given_of 𝓡.env wired)) (no_thm.met 𝓤 𝓛 𝓜 𝓡 (code.calls-mls_calls::none_given 𝓡.env wired))
    a.0 (heap_laws.the_told.val a.0) ((heap_laws.the_row_laws.lawful 𝓛).typed a.0 (heap_laws.the_told.val a.0 ∷ []) are.0).0 g.0 g.1 a.1.0 a.1.1.0 are.1.1.0.1)
