-- Files that hold texts, one after another.
use Rattle.std.proofs.Common.{◌≡◌, ℕ, ◌+◌, ◌<◌, ◌++◌, List, [], ◌∷◌, map, take, drop, length, get_or, Option, Vec, Global, Bor, ◌∙◌, ap, sym, subst}
use Rattle.std.proofs.lemmas.List.{map_more, map-append, take-append-drop, drop_more}
use Rattle.shell.specs.Disk.{DiskState, Files, Holds}
use Rattle.commands.specs.declared.failure.Failure.{Failure}
use Rattle.commands.specs.Parts.{AllHold, IsUnread, MissesFile}

all_hold_more : (told : Option Files) (paths texts : List (List ℕ)) (path text : List ℕ) → AllHold told paths texts → Holds told path text
    → AllHold told (paths ++ path ∷ []) (texts ++ text ∷ [])
all_hold_more told [] [] path text h more = (more, tt)
all_hold_more told [] (t ∷ texts) path text h more = absurd h
all_hold_more told (p ∷ paths) [] path text h more = absurd h
all_hold_more told (p ∷ paths) (t ∷ texts) path text h more = (h.0, all_hold_more told paths texts path text h.1 more)

-- one more file was read
pub all_hold_next : (told now : Option Files) (paths : List (Bor (List ℕ))) (texts pushed : List (Vec ℕ Global)) (i : ℕ) (d : Bor (List ℕ)) (text : Vec ℕ Global) → now ≡ told → i < length paths
    → pushed ≡ texts ++ text ∷ [] → AllHold told (map (λ (p : Bor (List ℕ)). p.now) (take i paths)) (map (λ (t : Vec ℕ Global). t.items) texts) → Holds now (get_or paths i d).now text.items
    → AllHold told (map (λ (p : Bor (List ℕ)). p.now) (take (i + 1) paths)) (map (λ (t : Vec ℕ Global). t.items) pushed)
all_hold_next told now paths texts pushed i d text same low is h more =
    let name : Bor (List ℕ) → List ℕ = λ p. p.now in
    let bytes : Vec ℕ Global → List ℕ = λ t. t.items in
    subst (λ ps. AllHold told ps (map bytes pushed)) (sym (map_more name paths i d low))
    (subst (λ ts. AllHold told (map name (take i paths) ++ name (get_or paths i d) ∷ []) ts) (sym (ap (map bytes) is ∙ map-append bytes texts (text ∷ [])))
    (all_hold_more told (map name (take i paths)) (map bytes texts) (name (get_or paths i d)) (bytes text) h (subst (λ o. Holds o (name (get_or paths i d)) (bytes text)) same more)))

around : (paths : List (Bor (List ℕ))) (i : ℕ) (d : Bor (List ℕ)) → i < length paths
    → map (λ (p : Bor (List ℕ)). p.now) paths ≡ map (λ (p : Bor (List ℕ)). p.now) (take i paths) ++ ((get_or paths i d).now ∷ map (λ (p : Bor (List ℕ)). p.now) (drop (i + 1) paths))
around paths i d low =
    let name : Bor (List ℕ) → List ℕ = λ p. p.now in
    ap (map name) (sym (take-append-drop i paths)) ∙ map-append name (take i paths) (drop i paths) ∙ ap (λ rest. map name (take i paths) ++ map name rest) (drop_more paths i d low)

-- or it couldn't be read
pub missed : (old now new : DiskState) (paths : List (Bor (List ℕ))) (texts : List (List ℕ)) (i : ℕ) (d : Bor (List ℕ)) (f : Failure) → now ≡ old → i < length paths
    → AllHold old.files (map (λ (p : Bor (List ℕ)). p.now) (take i paths)) texts → IsUnread now new (get_or paths i d) f
    → MissesFile old new (map (λ (p : Bor (List ℕ)). p.now) paths) f
missed old now new paths texts i d f same low h unread = record {
  before = map (λ (p : Bor (List ℕ)). p.now) (take i paths);
  path = get_or paths i d;
  after = map (λ (p : Bor (List ℕ)). p.now) (drop (i + 1) paths);
  are = around paths i d low;
  texts = texts;
  held = h;
  unread = subst (λ disk. IsUnread disk new (get_or paths i d) f) same unread;
}
