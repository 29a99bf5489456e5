use Rattle.workers.proofs.room.Room.of.Goals as goal

pub returns : goal.returns
returns g c =
    let workers = c.in_ok-with_capacity.ensures in
    let back = c.in_ok-with_capacity-2.ensures in
    let seats = c.in_ok-with_capacity-3.ensures in
    let results = c.in_ok-with_capacity-4.ensures in record {
      lists = c.in_ok-lists.ensures.count;
      each = c.in_ok-lists.ensures.each;
      workers = workers.items;
      workers_room = workers.capacity;
      back = back.items;
      back_room = back.capacity;
      seats = seats.items;
      seats_room = seats.capacity;
      results = results.items;
      results_room = rw (← c.in-Some.ensures.1) results.capacity;
    }
