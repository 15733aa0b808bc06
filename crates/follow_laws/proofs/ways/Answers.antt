use Rattle.follow_laws.proofs.WayLaws.{comes_on, comes_of, leads_on, leads_twice, comes_to_lead, comes_to_end, one, stands_front, stands_back}
use Rattle.follow_laws.proofs.ways.Goals as goal

pub returns : goal.returns
returns c = record {
  comes = comes_on;
  leads = leads_on;
  twice = leads_twice;
  leads_comes = comes_of;
  comes_to_lead = comes_to_lead;
  comes_to_end = comes_to_end;
  instruction = one;
  front = stands_front;
  back = stands_back;
}
