-- Powers of whole numbers, ISO/IEC 1539-1:2018 10.1.5.2.
use Rattle.std.specs.Prelude.{ℕ, zero, suc, Option, Some, None, ℤ, pos, negsuc, ◌*ℤ◌, int_div}

-- x multiplied by itself n times: x ** 0 is 1, of zero too, which is this project's own choice
unfoldable pub power : ℤ → ℕ → ℤ
power x zero = pos 1
power x (suc n) = power x n *ℤ x

-- the quotient without its fraction, so nearest to zero; none where the divisor is zero
unfoldable pub quotient : ℤ → ℤ → Option ℤ
quotient a (pos zero) = None
quotient a (pos (suc n)) = Some (int_div a (pos (suc n)))
quotient a (negsuc n) = Some (int_div a (negsuc n))

-- x ** n; for n below zero it is 1 / x ** (-n), taken exactly and truncated, so zero has no such power
unfoldable pub exact_power : ℤ → ℤ → Option ℤ
exact_power x (pos n) = Some (power x n)
exact_power x (negsuc n) = quotient (pos 1) (power x (suc n))
