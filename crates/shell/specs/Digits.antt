-- Numbers in hexadecimal.
use Rattle.std.specs.Prelude.{ℕ, ◌*◌, ◌-◌, ◌/◌, ◌%◌, ◌^◌, false, List, map}
use Rattle.std.specs.List.{range_with_len}
use Rattle.std.specs.Fmt.{digit_glyph}

-- a number as sixteen hexadecimal digits, in lower case
unfoldable pub sixteen_digits : ℕ → List ℕ
sixteen_digits number =
    map (λ place. digit_glyph false (number / 2 ^ (60 - 4 * place) % 16)) (range_with_len 0 16)
