-- The items of a format, taken one by one.
use Rattle.std.proofs.Common.{◌≡◌, ℕ, ◌<◌, ◌≤◌, Bool, true, false, List, ◌∷◌, ◌++◌, length, get_or, Option, Some, None, sym, ap, ◌∙◌, if◌then◌else◌}
use Rattle.std.specs.Option.{option_map}
use Rattle.std.proofs.lemmas.List.{append-nil}
use Rattle.source_tokens.specs.declared.token.Token.{Token}
use Rattle.source_scan.specs.Items.{is_prefix, item_bytes, joined_items, items_bytes}
use Rattle.source_scan.proofs.Fronts.{behind, front_and_behind, nothing}
use Rattle.source_scan.proofs.Parts.{option_map-append}

items-step : (source : List ℕ) (token : Token) (tokens : List Token) (b : Bool) → is_prefix source token tokens ≡ b
    → items_bytes source (token ∷ tokens) ≡ (if b then items_bytes source tokens else joined_items (item_bytes source token) (items_bytes source tokens))
unfolding items_bytes
items-step source token tokens b is = ap (λ (one : Bool). if one then items_bytes source tokens else joined_items (item_bytes source token) (items_bytes source tokens)) is

-- a prefix was passed
pub items-prefix : (source bytes : List ℕ) (tokens rest : List Token) (d : Token) → 1 ≤ length rest → items_bytes source tokens ≡ option_map (λ (more : List ℕ). bytes ++ more) (items_bytes source rest) → is_prefix source (get_or rest 0 d) (behind rest) ≡ true
    → items_bytes source tokens ≡ option_map (λ (more : List ℕ). bytes ++ more) (items_bytes source (behind rest))
items-prefix source bytes tokens rest d some goes is =
    goes ∙ ap (λ (list : List Token). option_map (λ (more : List ℕ). bytes ++ more) (items_bytes source list)) (front_and_behind rest d some)
    ∙ ap (option_map (λ (more : List ℕ). bytes ++ more)) (items-step source (get_or rest 0 d) (behind rest) true is)

-- an item was read
pub items-item : (source bytes item : List ℕ) (tokens rest : List Token) (d : Token) → 1 ≤ length rest → items_bytes source tokens ≡ option_map (λ (more : List ℕ). bytes ++ more) (items_bytes source rest) → is_prefix source (get_or rest 0 d) (behind rest) ≡ false
    → item_bytes source (get_or rest 0 d) ≡ Some item → items_bytes source tokens ≡ option_map (λ (more : List ℕ). (bytes ++ item) ++ more) (items_bytes source (behind rest))
items-item source bytes item tokens rest d some goes is read =
    goes ∙ ap (λ (list : List Token). option_map (λ (more : List ℕ). bytes ++ more) (items_bytes source list)) (front_and_behind rest d some)
    ∙ ap (option_map (λ (more : List ℕ). bytes ++ more)) (items-step source (get_or rest 0 d) (behind rest) false is ∙ ap (λ (one : Option (List ℕ)). joined_items one (items_bytes source (behind rest))) read)
    ∙ option_map-append bytes item (items_bytes source (behind rest))

-- the next token is no item
pub items-other : (source bytes : List ℕ) (tokens rest : List Token) (d : Token) → 1 ≤ length rest → items_bytes source tokens ≡ option_map (λ (more : List ℕ). bytes ++ more) (items_bytes source rest) → is_prefix source (get_or rest 0 d) (behind rest) ≡ false
    → item_bytes source (get_or rest 0 d) ≡ None → items_bytes source tokens ≡ None
items-other source bytes tokens rest d some goes is read =
    goes ∙ ap (λ (list : List Token). option_map (λ (more : List ℕ). bytes ++ more) (items_bytes source list)) (front_and_behind rest d some)
    ∙ ap (option_map (λ (more : List ℕ). bytes ++ more)) (items-step source (get_or rest 0 d) (behind rest) false is ∙ ap (λ (one : Option (List ℕ)). joined_items one (items_bytes source (behind rest))) read)

-- no token follows
pub items-all : (source bytes : List ℕ) (tokens rest : List Token) → length rest < 1 → items_bytes source tokens ≡ option_map (λ (more : List ℕ). bytes ++ more) (items_bytes source rest) → Some bytes ≡ items_bytes source tokens
unfolding items_bytes
items-all source bytes tokens rest none goes =
    sym (goes ∙ ap (λ (list : List Token). option_map (λ (more : List ℕ). bytes ++ more) (items_bytes source list)) (nothing rest none) ∙ ap Some (append-nil bytes))
