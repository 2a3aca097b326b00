-- Room that is measured up to the largest number of 64 bits.
use Rattle.std.proofs.Common.{◌≡◌, ℕ, ◌-◌, ◌^◌, ◌<◌, ◌≤◌, arith, Option, Some, None, option_map, lt-ltb, le-ltb}
use Rattle.il_ast.specs.declared.function.Func.{Func}
use Rattle.il_ast.specs.declared.program.InText.{InText}
use Rattle.il_ast.specs.Prelude.{need}
use Rattle.il_types.specs.Prelude.{capped}
use Rattle.il_interp.specs.Machine.{LeavesRoom}

fits_below : (room n : ℕ) → room < 2 ^ 32 → capped n ≤ room → n ≤ room
fits_below room n small le = omega (arith, le)

pub enough : (o : Option (InText Func)) (room c left : ℕ) → room < 2 ^ 32 → Some c ≡ option_map (λ (f : InText Func). capped (need f.item)) o → c ≤ room → left ≡ room - c → LeavesRoom o room (Some left)
enough None room c left small e le is = tt
enough (Some f) room c left small e le is =
    let same : c ≡ capped (need f.item) = cc in
    let fits : need f.item ≤ room = fits_below room (need f.item) small (omega (arith, same)) in
    (le-ltb room (need f.item) fits, omega (arith, same, fits))

pub too_little : (o : Option (InText Func)) (room c : ℕ) → Some c ≡ option_map (λ (f : InText Func). capped (need f.item)) o → room < c → LeavesRoom o room None
too_little None room c e lt = tt
too_little (Some f) room c e lt =
    let same : c ≡ capped (need f.item) = cc in
    lt-ltb room (need f.item) (omega (arith, same))

pub no_need : (o : Option (InText Func)) (room : ℕ) → None ≡ option_map (λ (f : InText Func). capped (need f.item)) o → LeavesRoom o room None
no_need None room e = tt
no_need (Some f) room e = cc
