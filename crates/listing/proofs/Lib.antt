mod Room
