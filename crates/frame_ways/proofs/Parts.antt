-- What the tests of a plan say, and what is true of all its parts.
use Rattle.std.proofs.Common.{◌≡◌, ℕ, zero, suc, ◌<◌, Bool, true, List, [], ◌∷◌, refl, ap, ◌∙◌, ◌&&◌, nat_eq, nat_lt, map, slice_get, Option, Some, None}
use Rattle.std.specs.List.{list_all}
use Rattle.std.proofs.lemmas.Bool.{and_parts, and_from, eqb-true, ltb-true}
use Rattle.std.proofs.lemmas.Option.{none-some, same_Some}
use Rattle.il_ast.proofs.Listed.{all_at}
use Rattle.vcode.specs.declared.place.Location.{Location}
use Rattle.vcode.specs.declared.place.Destination.{Destination}
use Rattle.vcode.specs.declared.line.Jump.TheVariants.{Goto}
use Rattle.vcode.specs.declared.code.Block.{Block}
use Rattle.vcode.specs.declared.code.Code.{Code}
use Rattle.frame_ways.specs.declared.mark.Mark.{Mark}
use Rattle.frame_ways.specs.declared.mark.Mark.TheVariants.{Bare, Begin, Framed}
use Rattle.frame_ways.specs.declared.plan.Part.{Part}
use Rattle.frame_ways.specs.declared.plan.Plan.{Plan}
use Rattle.frame_ways.specs.Plans.{is_bare_place, is_bare, part_for, with_targets, copy_of, copied, part_block, planned, passes, is_of, stands_for, is_copy_right, is_part_right, is_plan}

-- ---- what is there and passes a test

pub record Found {X : Type 0} (test : X → Bool) (o : Option X) : Type 0 where
  pub item : X
  pub is : o ≡ Some item
  pub holds : test item ≡ true

pub found : {X : Type 0} (test : X → Bool) (o : Option X) → passes test o ≡ true → Found test o
found test None h = absurd (let no : ⊥ = cc in no)
found test (Some x) h = record { item = x; is = refl; holds = h }

-- the item of which one of a list was made
pub record MadeOf {A B : Type 0} (g : A → B) (xs : List A) (k : ℕ) (y : B) : Type 0 where
  pub item : A
  pub there : slice_get xs k ≡ Some item
  pub makes : g item ≡ y

pub made_of : {A B : Type 0} (g : A → B) (xs : List A) (k : ℕ) (y : B) → slice_get (map g xs) k ≡ Some y → MadeOf g xs k y
made_of g [] k y h = absurd (none-some y h)
made_of g (x ∷ xs) zero y h = record { item = x; there = refl; makes = same_Some (g x) y h }
made_of g (x ∷ xs) (suc k) y h = let rest = made_of g xs k y h in record { item = rest.item; there = rest.there; makes = rest.makes }

-- ---- plans that are right

pub record RightPlan (f : Code Location) (plan : Plan) : Type 0 where
  pub params : list_all (λ (d : Destination Location). is_bare_place d.place) f.params ≡ true
  pub first : Found (is_of is_bare 0) (slice_get plan.parts 0)
  pub parts : list_all (is_part_right f plan) plan.parts ≡ true

pub plan_right : (f : Code Location) (plan : Plan) → is_plan f plan ≡ true → RightPlan f plan
plan_right f plan h =
    let parts : Bool = list_all (is_part_right f plan) plan.parts in
    let first : Bool = passes (is_of is_bare 0) (slice_get plan.parts 0) in
    let one = and_parts (list_all (λ (d : Destination Location). is_bare_place d.place) f.params) (first && parts) h in
    let two = and_parts first parts one.1 in
    record { params = one.0; first = found (is_of is_bare 0) (slice_get plan.parts 0) two.0; parts = two.1 }

-- the part that stands for a block
pub record StandsFor (may : Mark → Bool) (plan : Plan) (numbers : List ℕ) (t : ℕ) : Type 0 where
  pub some : 0 < part_for numbers t
  pub part : Part
  pub there : slice_get plan.parts (part_for numbers t) ≡ Some part
  pub block : part.block ≡ t
  pub mark : may part.mark ≡ true

pub it_stands : (may : Mark → Bool) (plan : Plan) (numbers : List ℕ) (t : ℕ) → stands_for may plan numbers t ≡ true → StandsFor may plan numbers t
it_stands may plan numbers t h =
    let n : ℕ = part_for numbers t in
    let both = and_parts (nat_lt 0 n) (passes (is_of may t) (slice_get plan.parts n)) h in
    let at = found (is_of may t) (slice_get plan.parts n) both.1 in
    let is = and_parts (nat_eq at.item.block t) (may at.item.mark) at.holds in
    record { some = ltb-true 0 n both.0; part = at.item; there = at.is; block = eqb-true at.item.block t is.0; mark = is.1 }

-- the block that a part is of
abbrev pub Origin : Code Location → Plan → Part → Type 0
Origin f plan part = Found (is_copy_right plan part.block part.mark) (slice_get f.blocks part.block)

pub origin : (f : Code Location) (plan : Plan) (part : Part) → is_part_right f plan part ≡ true → Origin f plan part
origin f plan part h = found (is_copy_right plan part.block part.mark) (slice_get f.blocks part.block) h

pub is_copy : (f : Code Location) (plan : Plan) (part : Part) (o : Origin f plan part) → part_block f plan part ≡ copy_of plan part.block part.mark o.item
is_copy f plan part o = ap (copied plan part) o.is

pub part_origin : (f : Code Location) (plan : Plan) → RightPlan f plan → (q : ℕ) (part : Part) → slice_get plan.parts q ≡ Some part → Origin f plan part
part_origin f plan right q part there = origin f plan part (all_at (is_part_right f plan) plan.parts q part right.parts there)

-- ---- what is true of all parts

pub all_parts : (f : Code Location) (plan : Plan) (test : Block Location → Bool) (parts : List Part) → list_all (is_part_right f plan) parts ≡ true
    → ((part : Part) (o : Origin f plan part) → test (copy_of plan part.block part.mark o.item) ≡ true) → list_all test (map (part_block f plan) parts) ≡ true
all_parts f plan test [] h each = refl
all_parts f plan test (p ∷ parts) h each =
    let both = and_parts (is_part_right f plan p) (list_all (is_part_right f plan) parts) h in
    let o = origin f plan p both.0 in
    and_from (test (part_block f plan p)) (list_all test (map (part_block f plan) parts)) (ap test (is_copy f plan p o) ∙ each p o) (all_parts f plan test parts both.1 each)

-- what passes, whatever the targets are
pub copies_pass : (f : Code Location) (plan : Plan) → RightPlan f plan → (test : Block Location → Bool) → ((k : ℕ) → test (record { lines = []; jump = Goto k }) ≡ true)
    → ((numbers : List ℕ) (b : Block Location) → test b ≡ true → test (with_targets numbers b) ≡ true)
    → list_all test f.blocks ≡ true → list_all test (planned f plan).blocks ≡ true
copies_pass f plan right test begins stays all = all_parts f plan test plan.parts right.parts (λ part o. by_mark part o part.mark)
  where
    by_mark : (part : Part) (o : Origin f plan part) (m : Mark) → test (copy_of plan part.block m o.item) ≡ true
    by_mark part o Bare = stays plan.front o.item (all_at test f.blocks part.block o.item all o.is)
    by_mark part o Begin = begins (part_for plan.behind part.block)
    by_mark part o Framed = stays plan.behind o.item (all_at test f.blocks part.block o.item all o.is)
