use Rattle.std.proofs.Common.{◌≡◌, ℕ, [], zero, suc, true, if◌then◌else◌, slice_get, Option, Some, None, IfOk, refl, ap, ◌∙◌, subst}
use Rattle.std.proofs.Math.Path.{fun_ext}
use Rattle.renaming.specs.Renamed.{Names, is_plain, plain_names, all_called, owners_of, listed, names_of}
use Rattle.renaming.proofs.names.Names.begin.Goals as goal

none_listed : (o : Option ℕ) (r : ℕ) → listed [] o r ≡ None
none_listed None r = refl
none_listed (Some zero) r = refl
none_listed (Some (suc k)) r = refl

pub returns-clause-names : goal.returns-clause-names
returns-clause-names c =
    let o = owners_of c.args.self.now in
    let places = c.args.self.now.places.items in
    let begun : names_of (record c.args.self.now { named = c.clear.new.self }) ≡ plain_names o =
    fun_ext (λ r. ap (λ xs. if is_plain o r then Some r else listed xs (slice_get places r) r) c.clear.ensures.items ∙ ap (λ n. if is_plain o r then Some r else n) (none_listed (slice_get places r) r)) in
    subst (λ (ns : Names). IfOk c.call_all.result (λ b. b ≡ true → names_of c.call_all.new.self ≡ all_called ns c.args.names.now)) begun c.call_all.ensures.names
