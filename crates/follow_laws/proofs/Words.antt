-- The words of items, one part after the other, and ways along them.
use Rattle.std.proofs.Common.{◌≡◌, ℕ, suc, ◌+◌, ◌*◌, pos, ◌-ℤ◌, List, ◌∷◌, ◌++◌, length, Some, sym, ap, subst, arith, length-append, append_assoc}
use Rattle.rv64_isa.specs.declared.instr.Instr.{Instr}
use Rattle.rv64_isa.specs.declared.instr.Instr.TheVariants.{Jal}
use Rattle.rv64_meaning.specs.Machine.{Segments, State, fetch}
use Rattle.rv64_abi.specs.Offsets.{call}
use Rattle.rv64_select.specs.declared.item.Symbol.{Symbol}
use Rattle.rv64_select.specs.declared.item.Item.{Item}
use Rattle.rv64_select.specs.declared.item.Item.TheVariants as item
use Rattle.rv64_select.specs.Assembly.{plain}
use Rattle.rv64_select.specs.Code.{words_in, Places, resolved, direct}
use Rattle.rv64_select.proofs.Laying.{laid-append, length-direct, direct-plain, direct-front}
use Rattle.follow_laws.specs.Relation.{StandsAt, Comes, ComesTo}
use Rattle.follow_laws.proofs.WayLaws.{comes_on, comes_here, leads_on, comes_to_lead, stands_front, stands_back}

-- the code of these items stands from an address up to an end
pub record Stretch (m : Segments) (places : Places) (at end : ℕ) (items : List Item) : Type 0 where
  pub stands : StandsAt m at (direct places at items)
  pub ends : end ≡ at + 4 * length (direct places at items)

-- instructions in front of items
pub front_stands : (m : Segments) (places : Places) (at end : ℕ) (code : List Instr) (items : List Item) → Stretch m places at end (plain code ++ items) → StandsAt m at code
front_stands m places at end code items h =
    stands_front m at code (direct places (at + 4 * length code) items) (subst (StandsAt m at) (direct-front places at code items) h.stands)

-- and what is behind them
pub behind : (m : Segments) (places : Places) (at end there : ℕ) (code : List Instr) (items : List Item) → Stretch m places at end (plain code ++ items) → there ≡ at + 4 * length code → Stretch m places there end items
behind m places at end there code items h e =
    let next = at + 4 * length code in
    let parts = direct-front places at code items in
    let rest : Stretch m places next end items = record {
      stands = stands_back m at code (direct places next items) (subst (StandsAt m at) parts h.stands);
      ends = omega (arith, h.ends, ap length parts, length-append code (direct places next items));
    } in
    subst (λ n. Stretch m places n end items) (sym e) rest

-- instructions alone
pub plain_stands : (m : Segments) (places : Places) (at end : ℕ) (code : List Instr) → Stretch m places at end (plain code) → StandsAt m at code
plain_stands m places at end code h = subst (StandsAt m at) (direct-plain places at code) h.stands

pub plain_ends : (m : Segments) (places : Places) (at end : ℕ) (code : List Instr) → Stretch m places at end (plain code) → end ≡ at + 4 * length code
plain_ends m places at end code h = omega (arith, h.ends, ap length (direct-plain places at code))

-- items in groups
pub grouped : (m : Segments) (places : Places) (at end : ℕ) (xs ys zs : List Item) → Stretch m places at end ((xs ++ ys) ++ zs) → Stretch m places at end (xs ++ (ys ++ zs))
grouped m places at end xs ys zs h = subst (Stretch m places at end) (append_assoc xs ys zs) h

-- a jump in front of items
pub jump_stands : (m : Segments) (places : Places) (at end label : ℕ) (items : List Item) → Stretch m places at end (item.Jump label ∷ items) → fetch m at ≡ Some (Jal 0 (pos (places.label label) -ℤ pos at))
jump_stands m places at end label items h = h.stands.0

pub behind_jump : (m : Segments) (places : Places) (at end label : ℕ) (items : List Item) → Stretch m places at end (item.Jump label ∷ items) → Stretch m places (at + 4) end items
behind_jump m places at end label items h = record { stands = h.stands.1; ends = omega (arith, h.ends) }

-- a call in front of items
pub call_stands : (m : Segments) (places : Places) (at end : ℕ) (s : Symbol) (items : List Item) → Stretch m places at end (item.Call s ∷ items) → StandsAt m at (call at (places.symbol s))
call_stands m places at end s items h = (h.stands.0, (h.stands.1.0, tt))

pub behind_call : (m : Segments) (places : Places) (at end : ℕ) (s : Symbol) (items : List Item) → Stretch m places at end (item.Call s ∷ items) → Stretch m places (at + 8) end items
behind_call m places at end s items h =
    let place : at + 4 + 4 ≡ at + 8 = omega arith in
    record { stands = subst (λ n. StandsAt m n (direct places (at + 8) items)) place h.stands.1.1; ends = omega (arith, h.ends) }

-- what is behind items
pub behind_items : (m : Segments) (places : Places) (at end : ℕ) (xs ys : List Item) → Stretch m places at end (xs ++ ys) → Stretch m places (at + 4 * words_in xs) end ys
behind_items m places at end xs ys h =
    let parts = laid-append (resolved places) at xs ys in
    let front = direct places at xs in
    let next = at + 4 * words_in xs in
    let back = direct places next ys in
    let len = length-direct places at xs in
    let there : at + 4 * length front ≡ next = omega (arith, len) in
    record {
      stands = subst (λ n. StandsAt m n back) there (stands_back m at front back (subst (StandsAt m at) parts h.stands));
      ends = omega (arith, h.ends, ap length parts, length-append front back, len);
    }

-- no words are left before an end
pub ended : (at end : ℕ) → end ≡ at + 4 * 0 → at ≡ end
ended at end h = omega (arith, h)

-- ---- ways

-- from s the machine comes to some state of which P holds, or is in one
pub record Reaches (m : Segments) (s : State) (P : State → Type 0) : Type 0 where
  pub state : State
  pub comes : Comes m s state
  pub holds : P state

pub reaches_here : (m : Segments) (s : State) (P : State → Type 0) → P s → Reaches m s P
reaches_here m s P h = record { state = s; comes = comes_here m s; holds = h }

pub reaches_of : (m : Segments) (s : State) (P : State → Type 0) → ComesTo m s P → Reaches m s P
reaches_of m s P c = record { state = c.state; comes = record { steps = suc c.leads.steps; there = c.leads.there }; holds = c.holds }

pub reaches_on : (m : Segments) (s : State) (P Q : State → Type 0) → Reaches m s P → ((t : State) → P t → Reaches m t Q) → Reaches m s Q
reaches_on m s P Q a f = let b = f a.state a.holds in record { state = b.state; comes = comes_on m s a.state b.state a.comes b.comes; holds = b.holds }

-- a step at least, and then ways that may have none
pub lead_on : (m : Segments) (s : State) (P Q : State → Type 0) → ComesTo m s P → ((t : State) → P t → Reaches m t Q) → ComesTo m s Q
lead_on m s P Q a f = let b = f a.state a.holds in record { state = b.state; leads = leads_on m s a.state b.state a.leads b.comes; holds = b.holds }

-- and the other way about
pub come_on : (m : Segments) (s : State) (P Q : State → Type 0) → Reaches m s P → ((t : State) → P t → ComesTo m t Q) → ComesTo m s Q
come_on m s P Q a f = let b = f a.state a.holds in record { state = b.state; leads = comes_to_lead m s a.state b.state a.comes b.leads; holds = b.holds }
