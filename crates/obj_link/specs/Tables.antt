-- What tables of names hold.
use Rattle.std.specs.Prelude.{ℕ, Bool, true, false, nat_eq, ◌&&◌, List, Option, Some, None, bytes_eq}
use Rattle.std.specs.Borrow.{Bor}
use Rattle.std.specs.HashMap.{HashMap, get_by, get}
use Rattle.std.specs.Option.{option_or}
use Rattle.il_ast.specs.declared.program.Target.{Target}

-- by name
abbrev pub seen : {S : Type 0} → HashMap (Bor (List ℕ)) Target S → List ℕ → Option Target
seen table name = get_by (λ k. bytes_eq name k.now) table

-- by text and symbol
abbrev pub held : {S : Type 0} → HashMap (ℕ × ℕ) Target S → ℕ → ℕ → Option Target
held table t s = get (λ p q. nat_eq p.0 q.0 && nat_eq p.1 q.1) table (t, s)

abbrev pub is_free : Option Target → Bool
is_free None = true
is_free (Some t) = false

-- what two such tables give a symbol of a text that has this name
abbrev pub meaning_in : {S T : Type 0} → HashMap (ℕ × ℕ) Target S →
    HashMap (Bor (List ℕ)) Target T → ℕ → ℕ → List ℕ → Option Target
meaning_in owned exports t s name = option_or (held owned t s) (seen exports name)
