-- Powers modulo m.
use Rattle.std.specs.Prelude.{ℕ, zero, suc, ◌*◌, ◌%◌}

-- b to the e, modulo m
unfoldable pub power : ℕ → ℕ → ℕ → ℕ
power m b zero = 1 % m
power m b (suc e) = b * power m b e % m
