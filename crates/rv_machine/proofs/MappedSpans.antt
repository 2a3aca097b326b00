-- What allows something is mapped.
use Rattle.std.proofs.Common.{◌≡◌, ℕ, Bool, true, false, refl, ◌||◌, not}
use Rattle.std.proofs.lemmas.Bool.{and_parts}
use Rattle.rv_isa.specs.Prelude.{each_of}
use Rattle.rv_isa.specs.declared.permission.Permission.{Permission}
use Rattle.rv_isa.proofs.MemoryLemmas.{each_at, each_from}
use Rattle.rv_machine.specs.declared.access.Access.{Access}
use Rattle.rv_machine.specs.declared.access.Access.TheVariants.{Read, Write, Execute, Fixed}
use Rattle.rv_machine.specs.Entries.{permits}
use Rattle.rv_machine.specs.Mapped.{is_mapped}

one_of : (a b c : Bool) → (a ≡ true) → (a || b || c) ≡ true
one_of a b c e = rw e refl

two_of : (a b c : Bool) → (b ≡ true) → (a || b || c) ≡ true
two_of true b c e = refl
two_of false b c e = rw e refl

three_of : (a b c : Bool) → (c ≡ true) → (a || b || c) ≡ true
three_of true b c e = refl
three_of false true c e = refl
three_of false false c e = e

mapped : (access : Access) (p : Permission) → permits access p ≡ true → is_mapped p ≡ true
mapped Read p e = one_of p.readable p.writable p.executable e
mapped Write p e = two_of p.readable p.writable p.executable e
mapped Execute p e = three_of p.readable p.writable p.executable e
mapped Fixed p e = three_of p.readable p.writable p.executable (and_parts p.executable (not p.writable) e).0

pub each_mapped : (access : Access) (allows : ℕ → Permission) (at n : ℕ) → each_of (λ a. permits access (allows a)) at n ≡ true
    → each_of (λ a. is_mapped (allows a)) at n ≡ true
each_mapped access allows at n h =
    each_from (λ a. is_mapped (allows a)) at n (λ x low high. mapped access (allows x) (each_at (λ a. permits access (allows a)) at n x h low high))
