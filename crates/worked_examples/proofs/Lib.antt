mod NineStates
mod TextsRead
