-- Code that is rewritten by facts: what its lines, jumps and blocks owe.
use Rattle.std.proofs.Common.{◌≡◌, ℕ, List, Option, Some, slice_get, refl, sym, ◌∙◌, ap, subst}
use Rattle.il_ast.specs.declared.operation.Class.{Class}
use Rattle.il_ast.specs.declared.value.Value.{Value}
use Rattle.il_ast.specs.Prelude.{Memory, Given}
use Rattle.vcode.specs.Prelude.{Line, Jump, Block, Code, Values, virtual, unknown, bound, line_writes, act, written, Way, Lost, Enters, Answers, Halts, way, Alike, Arrives, LeadAlike, Follows, Rewrites}
use Rattle.vcode.proofs.Facts.{Facts, claimed}
use Rattle.vcode.proofs.Alike.{Works, MayLeave, lines_alike}

-- a line that does the same where the facts hold, and writes the same register; then other facts hold
pub fact_line : (f : Facts) (p q : f.Known) (l m : Line ℕ) → line_writes m ≡ line_writes l
    → ((globals : List Value) (memory : Memory) (values : Values ℕ) → f.hold p globals memory values → Works (act globals memory values l) → act globals memory values m ≡ act globals memory values l)
    → ((globals : List Value) (memory : Memory) (values : Values ℕ) → f.hold p globals memory values → (o : Option Value) (next : Memory) → MayLeave memory (act globals memory values l) o next → f.hold q globals next (written (line_writes l) o values))
    → Alike (claimed f) p q l m
fact_line f p q l m writes same behind globals memory before after holds =
    lines_alike ((claimed f).holds q globals) globals memory before after l m
    (λ works. ap (λ (x : Values ℕ). act globals memory x m) holds.0 ∙ same globals memory before holds.1 works)
    (λ o next may. (ap (λ (x : Option ℕ). written x o after) writes ∙ ap (written (line_writes l) o) holds.0, behind globals memory before holds.1 o next may))

-- where a jump leads to, the facts are known that are claimed there
abbrev pub Claimed : (f : Facts) → List Value → Memory → Values ℕ → Way → Type 0
Claimed f globals memory values (Enters k) = f.hold (f.at_start k) globals memory values
Claimed f globals memory values x = Unit {0}

ways_alike : (f : Facts) (globals : List Value) (memory : Memory) (before after : Values ℕ) (x y : Way) → after ≡ before → y ≡ x → Claimed f globals memory before x → Arrives (claimed f) globals memory before after x y
ways_alike f globals memory before after Lost y same is claims = tt
ways_alike f globals memory before after (Enters k) y same is claims = (k, (is, (f.at_start k, ((refl, refl), (same, claims)))))
ways_alike f globals memory before after (Answers o) y same is claims = is
ways_alike f globals memory before after Halts y same is claims = is

pub fact_jump : (f : Facts) (result : Option Class) (p : f.Known) (j k : Jump ℕ)
    → ((globals : List Value) (memory : Memory) (values : Values ℕ) → f.hold p globals memory values → way globals result memory values k ≡ way globals result memory values j)
    → ((globals : List Value) (memory : Memory) (values : Values ℕ) → f.hold p globals memory values → Claimed f globals memory values (way globals result memory values j))
    → LeadAlike (claimed f) result p j k
fact_jump f result p j k same claims globals memory before after holds =
    ways_alike f globals memory before after (way globals result memory before j) (way globals result memory after k) holds.0
    (ap (λ (x : Values ℕ). way globals result memory x k) holds.0 ∙ same globals memory before holds.1) (claims globals memory before holds.1)

-- the blocks follow, each by the facts that are claimed at its start; those at the first hold of what parameters are given
pub facts_rewrite : (f : Facts) (v w : Code ℕ) → w.result ≡ v.result → w.params ≡ v.params
    → ((globals : List Value) (i : Given) → f.hold (f.at_start 0) globals i.memory (bound virtual unknown v.params i.args))
    → ((k : ℕ) (b : Block ℕ) → slice_get v.blocks k ≡ Some b → (d : Block ℕ) × ((slice_get w.blocks k ≡ Some d) × Follows (claimed f) v w (f.at_start k) b.lines b.jump d.lines d.jump))
    → Rewrites (claimed f) v w
facts_rewrite f v w result params begins follows =
    record {
      result = result;
      first = f.at_start 0;
      arrives = (refl, refl);
      begins = λ globals i args. (ap (λ ps. bound virtual unknown ps i.args) params, begins globals i);
      follows = λ p k n arrives b at.
          subst (λ (x : ℕ). (d : Block ℕ) × ((slice_get w.blocks x ≡ Some d) × Follows (claimed f) v w p b.lines b.jump d.lines d.jump)) (sym arrives.0)
          (subst (λ (x : f.Known). (d : Block ℕ) × ((slice_get w.blocks k ≡ Some d) × Follows (claimed f) v w x b.lines b.jump d.lines d.jump)) (sym arrives.1) (follows k b at));
    }
