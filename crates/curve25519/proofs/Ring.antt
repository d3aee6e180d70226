-- The laws of a commutative ring, and what follows from them.
use Rattle.std.proofs.Common.{◌≡◌, ℕ, zero, suc, ◌+◌, ◌*◌, refl, sym, ap, ap₂, ◌∙◌, zero-add, suc-add, zero-mul, suc-mul}
use Rattle.curve25519.specs.Numbers.{Numbers}

pub record IsRing (n : Numbers) : Type 0 where
  pub add-comm : (x y : n.Of) → n.add x y ≡ n.add y x
  pub add-assoc : (x y z : n.Of) → n.add (n.add x y) z ≡ n.add x (n.add y z)
  pub add-nil : (x : n.Of) → n.add x n.nil ≡ x
  pub mul-comm : (x y : n.Of) → n.mul x y ≡ n.mul y x
  pub mul-assoc : (x y z : n.Of) → n.mul (n.mul x y) z ≡ n.mul x (n.mul y z)
  pub mul-one : (x : n.Of) → n.mul x n.one ≡ x
  pub mul-nil : (x : n.Of) → n.mul x n.nil ≡ n.nil
  pub distrib : (x y z : n.Of) → n.mul x (n.add y z) ≡ n.add (n.mul x y) (n.mul x z)
  pub add-neg : (x : n.Of) → n.add x (n.neg x) ≡ n.nil

pub record Ring : Type 1 where
  pub numbers : Numbers
  pub laws : IsRing numbers

module _ (r : Ring) where
  open r.numbers use {Of, nil, one, add, mul, neg}
  open r.laws use {add-comm, add-assoc, add-nil, mul-comm, mul-assoc, mul-one, mul-nil, distrib, add-neg}

  pub nil-add : (x : Of) → add nil x ≡ x
  nil-add x = add-comm nil x ∙ add-nil x

  pub nil-mul : (x : Of) → mul nil x ≡ nil
  nil-mul x = mul-comm nil x ∙ mul-nil x

  pub one-mul : (x : Of) → mul one x ≡ x
  one-mul x = mul-comm one x ∙ mul-one x

  pub distrib_right : (x y z : Of) → mul (add x y) z ≡ add (mul x z) (mul y z)
  distrib_right x y z = mul-comm (add x y) z ∙ distrib z x y ∙ ap₂ add (mul-comm z x) (mul-comm z y)

  -- (a + b) + (c + d) is (a + c) + (b + d)
  pub exchange : (a b c d : Of) → add (add a b) (add c d) ≡ add (add a c) (add b d)
  exchange a b c d =
      add-assoc a b (add c d)
      ∙ ap (add a) (sym (add-assoc b c d) ∙ ap (λ x. add x d) (add-comm b c) ∙ add-assoc c b d)
      ∙ sym (add-assoc a c (add b d))

  -- a * (x * b) is x * (a * b)
  pub mul-swap : (a x b : Of) → mul a (mul x b) ≡ mul x (mul a b)
  mul-swap a x b = sym (mul-assoc a x b) ∙ ap (λ y. mul y b) (mul-comm a x) ∙ mul-assoc x a b

  -- a number of the ring
  pub num : ℕ → Of
  num zero = nil
  num (suc n) = add one (num n)

  pub num-zero : num 0 ≡ nil
  unfolding num
  num-zero = refl

  pub num-one : num 1 ≡ one
  unfolding num
  num-one = add-nil one

  pub num-add : (m n : ℕ) → num (m + n) ≡ add (num m) (num n)
  unfolding num
  num-add zero n = ap num (zero-add n) ∙ sym (nil-add (num n))
  num-add (suc m) n = ap num (suc-add m n) ∙ ap (add one) (num-add m n) ∙ sym (add-assoc one (num m) (num n))

  pub num-mul : (m n : ℕ) → num (m * n) ≡ mul (num m) (num n)
  unfolding num
  num-mul zero n = ap num (zero-mul n) ∙ sym (nil-mul (num n))
  num-mul (suc m) n = ap num (suc-mul m n) ∙ num-add (m * n) n ∙ add-comm (num (m * n)) (num n) ∙ ap₂ add (sym (one-mul (num n))) (num-mul m n) ∙ sym (distrib_right one (num m) (num n))

  pub neg-add : (x : Of) → add (neg x) x ≡ nil
  neg-add x = add-comm (neg x) x ∙ add-neg x

  pub cancel : (x y z : Of) → add x z ≡ add y z → x ≡ y
  cancel x y z e =
      sym (add-nil x) ∙ ap (add x) (sym (add-neg z)) ∙ sym (add-assoc x z (neg z)) ∙ ap (λ w. add w (neg z)) e
      ∙ add-assoc y z (neg z) ∙ ap (add y) (add-neg z) ∙ add-nil y
