-- Steps that each walk by hand takes: a value's machine value, and what a call leaves. Assumes `Logic`.
use Rattle.std.proofs.Common.{◌≡◌, ℕ, List, [], ◌∷◌, refl, subst}
use seplogic.Ra.Ura.{Ura}
use mir.Syntax.{Ty}
use mir.Val.{Val}
use base.Logic.{emp, id⊢}
use types.Logic.{Logic}
use contract.Monad.{fact, fact_i}
use types.Kit.{Item, Goal, Seq, Step, Soaks, step, ‵, raw, ◌⊛◌, some, later, ◌$◌, move, drop, use0, use1, split, pick, await, rewrite}
use denote.RattleType.{RattleType}
use denote.Laws.{Typed, Is, Lawful, shows}
use denote.Param.{layout}
use denote.RawPtr.{Ptr, block_ptr, null_ptr}
use denote.Signature.{type_at}
use denote.Steps.{peeks}
use Rattle.std.proofs.cell.Inside.{Good, one}
use denote.Triple.Clauses.{Ended, Clauses, Lasts, lasts, at_exit, closing}
use denote.Triple.Entry.{Res, alive}
use denote.Triple.Spec.{triple_of}

-- by the pointer's form
pub by_pointer : (P : Ptr → Type 1) (p : Ptr) → ((b o : ℕ) → P (block_ptr b o)) → P null_ptr → P p
by_pointer P (block_ptr b o) f n = f b o
by_pointer P null_ptr f n = n

module _ (R : RattleType) {M : Type 1} {𝓤 : Ura M} {𝓛 : Logic 𝓤} (L : Lawful 𝓛 R) {K : Type 0} {Γ : List (Item 𝓤)} {G : Goal 𝓤 𝓛.H} where
  -- a machine value is of its type
  pub typed : K → (x : R.Denot) (v : Val) → (Typed R.mir (v ∷ []) → Seq K 𝓛 (‵ (R.own_val x (v ∷ [])) ∷ Γ) G) → Seq K 𝓛 (‵ (R.own_val x (v ∷ [])) ∷ Γ) G
  typed k x v h = peeks k R (Is R) (shows 𝓛 R) x (v ∷ []) (λ is. h (L.typed x (v ∷ []) is))

  -- what is owned of a value of one machine type is one machine value, of that type
  pub apart : K → R.mir ≡ layout R ∷ [] → (x : R.Denot) (vs : List Val)
      → ((v : Val) → vs ≡ v ∷ [] → Good (layout R) v → Seq K 𝓛 (‵ (R.own_val x (v ∷ [])) ∷ Γ) G) → Seq K 𝓛 (‵ (R.own_val x vs) ∷ Γ) G
  apart k e x vs h = peeks k R (Is R) (shows 𝓛 R) x vs (λ is.
      let g = one (layout R) vs (subst (λ (τs : List Ty). Typed τs vs) e (L.typed x vs is)) in
      rewrite k 0 (λ (us : List Val). ‵ (R.own_val x us)) g.1 refl $ h g.0 g.1 g.2)

module _ {M : Type 1} {𝓤 : Ura M} {𝓛 : Logic 𝓤} {K : Type 0} {Γ : List (Item 𝓤)} {G : Goal 𝓤 𝓛.H} where
  -- what a call leaves: the result, and what the callee ensures
  pub comes : K → Soaks G → (T : Ended) (c : Clauses 𝓤 T) (z : (triple_of 𝓛 T.signature (closing 𝓛 T c)).Ghost) (v : Val)
      → ((r : Res T.signature z.0.0) (ws : Lasts T z.0.0 z.0.3) → Seq K 𝓛 (‵ ((type_at T.signature.result z.0.0).own_val r (v ∷ [])) ∷ raw ((c z.0.0 z.0.3).ensures z.1 r (at_exit T z.0.0 z.0.3 ws)) ∷ Γ) G)
      → Seq K 𝓛 (raw ((triple_of 𝓛 T.signature (closing 𝓛 T c)).post z v) ∷ Γ) G
  comes t soaks T c z v k =
      use1 𝓛 (later (some (λ (r : Res T.signature z.0.0). (raw (alive 𝓛 T.signature z.0.0 z.0.1) ⊛ ‵ ((type_at T.signature.result z.0.0).own_val r (v ∷ [])))
      ⊛ some (λ (ws : Lasts T z.0.0 z.0.3). ‵ (lasts T z.0.0 z.0.3 ws) ⊛ raw ((c z.0.0 z.0.3).ensures z.1 r (at_exit T z.0.0 z.0.3 ws)))))) (id⊢ 𝓤 _) $
      await t soaks $ pick t (λ r. split t $ split t $ drop t $ move t (1 ∷ []) $ pick t (λ ws. split t $ drop t $ move t (1 ∷ []) $ k r ws))

  -- a fact that is shown
  pub holds : K → (φ : Type 0) → φ → Step K 𝓛 (raw (fact 𝓤 φ) ∷ Γ) G Γ G
  holds t φ x = step (λ s. use0 𝓛 (raw (fact 𝓤 φ)) (fact_i 𝓤 φ (emp 𝓤) x) $ s)
